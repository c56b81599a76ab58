use Rattle.std.proofs.Common.{take}
use Rattle.cc_listing_calls.specs.Numbered.{AreNumbered}
use Rattle.cc_listing_calls.proofs.number.numbered.Given as goal

abbrev pub invariant-loop-i : goal.invariant-loop-i
invariant-loop-i l = AreNumbered (take l.i l.accesses) l.out.items
