use Rattle.cc_first.proofs.PathRows.{IsChosen}
use Rattle.cc_first.proofs.paths.coupling_calls.Given as goal

abbrev pub invariant-loop-i : goal.invariant-loop-i
invariant-loop-i l = IsChosen l.program l.i l.couplings.items
