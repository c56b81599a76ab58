use Rattle.std.proofs.Common.{length}
use Rattle.cc_reduce.proofs.Looked.{IsLooked}
use Rattle.cc_reduce.proofs.reducing.reduce.Given as goal

abbrev pub invariant-loop-test : goal.invariant-loop-test
invariant-loop-test l = IsLooked l.scores.exercised (length l.listing) l.test l.later.items l.kept.items
