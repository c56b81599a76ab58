use Rattle.std.proofs.Common.{length}
use Rattle.cc_prep.proofs.kind.are_same_kinds.Given as goal

abbrev pub decreases-loop-a : goal.decreases-loop-a
decreases-loop-a l = length l.a
