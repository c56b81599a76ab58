use Rattle.std.proofs.Common.{◌≡◌, take}
use Rattle.cc_reduce.proofs.reducing.marks_of.Given as goal

abbrev pub invariant-loop-is_kept : goal.invariant-loop-is_kept
invariant-loop-is_kept l = l.marks ≡ take l.is_kept-index l.kept
