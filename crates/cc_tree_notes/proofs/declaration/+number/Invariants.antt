-- What was numbered, before what the rest gives, is what all give; and the rest has room.
use Rattle.std.proofs.Common.{◌≡◌, ◌+◌, map, drop}
use Rattle.cc_tree.specs.Nodes as nodes
use Rattle.cc_tree.specs.Views.{view_value, values_of}
use Rattle.cc_tree_notes.specs.Numbering as spec
use Rattle.cc_tree_notes.proofs.Turns.{then}
use Rattle.cc_tree_notes.proofs.declaration.+number.Given as goal

abbrev pub invariant-number_values-loop-v : goal.invariant-number_values-loop-v
invariant-number_values-loop-v l = record {
  told : then (map view_value l.numbered) (spec.numbered_values (values_of (drop l.v-index l.vs)) l.next) ≡ spec.numbered_values (values_of l.vs) l.initial.next;
  room : l.next + nodes.values_nodes (values_of (drop l.v-index l.vs)) ≡ l.initial.next + nodes.values_nodes (values_of l.vs);
}
