-- What was numbered, before what the rest gives, is what all give; and the rest has room.
use Rattle.std.proofs.Common.{◌≡◌, ◌+◌, map, drop}
use Rattle.cc_tree.specs.Nodes as nodes
use Rattle.cc_tree.specs.Views.{view_init}
use Rattle.cc_tree_notes.specs.Numbering as spec
use Rattle.cc_tree_notes.proofs.Turns.{then}
use Rattle.cc_tree_notes.proofs.declaration.number_inits.Given as goal

abbrev pub invariant-loop-i : goal.invariant-loop-i
invariant-loop-i l = record {
  told : then (map view_init l.numbered) (spec.numbered_inits (map view_init (drop l.i-index l.is)) l.next) ≡ spec.numbered_inits (map view_init l.is) l.initial.next;
  room : l.next + nodes.inits_nodes (map view_init (drop l.i-index l.is)) ≡ l.initial.next + nodes.inits_nodes (map view_init l.is);
}
