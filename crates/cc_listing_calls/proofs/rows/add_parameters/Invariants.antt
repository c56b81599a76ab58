use Rattle.std.proofs.Common.{take}
use Rattle.cc_rows.specs.Gains.{Gains, Each}
use Rattle.cc_listing_calls.specs.Rows.{OfCall}
use Rattle.cc_listing_calls.proofs.rows.add_parameters.Given as goal

abbrev pub invariant-loop-call : goal.invariant-loop-call
invariant-loop-call l = Gains l.initial.rows.items l.rows.items (Each (take l.call-index l.calls) (OfCall l.passing))
