use Rattle.std.proofs.Common.{◌≡◌, drop}
use Rattle.cc_program.specs.Programs.{defined_from, defined_in}
use Rattle.cc_program.proofs.program.Program.defined_functions.Given as goal

abbrev pub invariant-loop-function : goal.invariant-loop-function
invariant-loop-function l = defined_from l.count (drop l.function-index l.function-items) ≡ defined_in l.self.functions
