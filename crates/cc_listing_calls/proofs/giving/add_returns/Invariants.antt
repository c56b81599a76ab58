use Rattle.std.proofs.Common.{take}
use Rattle.cc_rows.specs.Gains.{Gains, Each}
use Rattle.cc_listing_calls.specs.Givings.{OfAsking}
use Rattle.cc_listing_calls.proofs.giving.add_returns.Given as goal

abbrev pub invariant-loop-call : goal.invariant-loop-call
invariant-loop-call l = Gains l.initial.rows.items l.rows.items (Each (take l.call-index l.calls) (OfAsking l.giving))
