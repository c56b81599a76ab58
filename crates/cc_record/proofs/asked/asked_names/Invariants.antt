use Rattle.cc_record.specs.Asked.{MarkedTo}
use Rattle.cc_record.proofs.asked.asked_names.Given as goal

abbrev pub invariant-loop-n : goal.invariant-loop-n
invariant-loop-n l = MarkedTo l.program l.asked.items l.n
