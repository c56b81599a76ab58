use Rattle.std.proofs.Common.{◌≤◌, length}
use Rattle.cc_prep.proofs.comment.behind_comment.Given as goal

abbrev pub invariant-loop-z : goal.invariant-loop-z
invariant-loop-z l = length l.z ≤ length l.initial.z

abbrev pub decreases-loop-z : goal.decreases-loop-z
decreases-loop-z l = length l.z
