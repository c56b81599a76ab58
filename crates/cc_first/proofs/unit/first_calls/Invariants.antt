use Rattle.std.proofs.Common.{map, length}
use Rattle.cc_first.specs.UnitReads.{AreCallsTo}
use Rattle.cc_first.specs.Views.{name_view}
use Rattle.cc_first.proofs.unit.first_calls.Given as goal

abbrev pub invariant-loop-call : goal.invariant-loop-call
invariant-loop-call l = AreCallsTo l.tokens (map name_view l.calls.items) l.rest

abbrev pub decreases-loop-call : goal.decreases-loop-call
decreases-loop-call l = length l.rest
