use Rattle.std.proofs.Common.{◌≡◌, drop}
use Rattle.cc_program.specs.Programs.{static_from, static_in}
use Rattle.cc_program.proofs.program.Program.static_objects.Given as goal

abbrev pub invariant-loop-variable : goal.invariant-loop-variable
invariant-loop-variable l = static_from l.count (drop l.variable-index l.variable-items) ≡ static_in l.self.variables
