use Rattle.cc_reduce.proofs.Marked.{IsCovered}
use Rattle.cc_reduce.proofs.covering.cover.Given as goal

abbrev pub invariant-loop-row : goal.invariant-loop-row
invariant-loop-row l = IsCovered l.initial.covered l.rows l.row-index l.covered l.added
