use Rattle.std.proofs.Common.{take}
use Rattle.cc_listing_calls.specs.Numbered.{AreItems}
use Rattle.cc_listing_calls.proofs.number.numbered_items.Given as goal

abbrev pub invariant-loop-i : goal.invariant-loop-i
invariant-loop-i l = AreItems (take l.i l.items) l.out.items
