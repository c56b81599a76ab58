-- What was numbered, before what the rest gives, is what all give; and the rest has room.
use Rattle.std.proofs.Common.{◌≡◌, ◌+◌, map, drop}
use Rattle.cc_tree.specs.Nodes as nodes
use Rattle.cc_tree.specs.Views.{view_item, items_of}
use Rattle.cc_tree_notes.specs.Numbering as spec
use Rattle.cc_tree_notes.proofs.Turns.{then}
use Rattle.cc_tree_notes.proofs.stmt.+number.Given as goal

abbrev pub invariant-number_items-loop-i : goal.invariant-number_items-loop-i
invariant-number_items-loop-i l = record {
  told : then (map view_item l.numbered) (spec.numbered_items (items_of (drop l.i-index l.is)) l.next) ≡ spec.numbered_items (items_of l.is) l.initial.next;
  room : l.next + nodes.items_nodes (items_of (drop l.i-index l.is)) ≡ l.initial.next + nodes.items_nodes (items_of l.is);
}
