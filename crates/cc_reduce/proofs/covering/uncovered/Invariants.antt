use Rattle.cc_reduce.proofs.Marked.{IsCounted}
use Rattle.cc_reduce.proofs.covering.uncovered.Given as goal

abbrev pub invariant-loop-row : goal.invariant-loop-row
invariant-loop-row l = IsCounted l.covered l.rows l.row-index l.count
