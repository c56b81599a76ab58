use Rattle.std.proofs.Common.{◌≡◌, drop}
use Rattle.cc_graph.specs.Parts.{with_items}
use Rattle.cc_graph.proofs.parts.item_parts.Given as goal

abbrev pub invariant-loop-item : goal.invariant-loop-item
invariant-loop-item l = with_items l.arena l.rows (drop l.item-index l.items) l.parts ≡ with_items l.arena l.rows l.items l.initial.parts
