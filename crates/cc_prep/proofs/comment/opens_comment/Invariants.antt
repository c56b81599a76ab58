use Rattle.std.proofs.Common.{length}
use Rattle.cc_prep.proofs.comment.opens_comment.Given as goal

abbrev pub decreases-loop-z : goal.decreases-loop-z
decreases-loop-z l = length l.z
