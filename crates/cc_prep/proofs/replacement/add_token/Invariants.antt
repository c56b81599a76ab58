use Rattle.std.proofs.Common.{◌+◌, ◌*◌, ◌-◌, length}
use Rattle.cc_prep.proofs.replacement.add_token.Given as goal

abbrev pub decreases-loop-number : goal.decreases-loop-number
decreases-loop-number l = 2 * (1048576 - l.output.steps) + length l.frames.items
