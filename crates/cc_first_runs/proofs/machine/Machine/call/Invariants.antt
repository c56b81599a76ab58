use Rattle.std.proofs.Common.{◌+◌, ◌*◌, length}
use Rattle.cc_first_runs.specs.Stacks.{program_view, IsCalling}
use Rattle.cc_first_runs.proofs.machine.Machine.call.Given as goal

abbrev pub invariant-loop-frame : goal.invariant-loop-frame
invariant-loop-frame l = IsCalling (program_view l.program) l.callee l.fn.self l.self

abbrev pub decreases-loop-frame : goal.decreases-loop-frame
decreases-loop-frame l = 2 * l.self.turns + length l.self.frames.items
