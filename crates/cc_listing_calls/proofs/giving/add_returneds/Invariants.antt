use Rattle.std.proofs.Common.{take}
use Rattle.cc_rows.specs.Gains.{Gains, Each}
use Rattle.cc_listing_calls.specs.Givings.{OfReturned}
use Rattle.cc_listing_calls.proofs.giving.add_returneds.Given as goal

abbrev pub invariant-loop-returned : goal.invariant-loop-returned
invariant-loop-returned l = Gains l.initial.rows.items l.rows.items (Each (take l.returned-index l.returns) (OfReturned l.giving l.call))
