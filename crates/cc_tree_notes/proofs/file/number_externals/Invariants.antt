-- What was numbered, before what the rest gives, is what all give; and the rest has room.
use Rattle.std.proofs.Common.{◌≡◌, ◌+◌, map, drop}
use Rattle.cc_tree.specs.Nodes as nodes
use Rattle.cc_tree.specs.Views.{view_external}
use Rattle.cc_tree_notes.specs.Numbering as spec
use Rattle.cc_tree_notes.proofs.Turns.{then}
use Rattle.cc_tree_notes.proofs.file.number_externals.Given as goal

abbrev pub invariant-loop-x : goal.invariant-loop-x
invariant-loop-x l = record {
  told : then (map view_external l.numbered) (spec.numbered_file (map view_external (drop l.x-index l.xs)) l.next) ≡ spec.numbered_file (map view_external l.xs) l.initial.next;
  room : l.next + nodes.file_nodes (map view_external (drop l.x-index l.xs)) ≡ l.initial.next + nodes.file_nodes (map view_external l.xs);
}
