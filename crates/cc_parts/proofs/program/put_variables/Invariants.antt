use Rattle.std.proofs.Common.{◌≡◌, drop}
use Rattle.cc_parts.specs.Objects.{with_variables}
use Rattle.cc_parts.proofs.program.put_variables.Given as goal

abbrev pub invariant-loop-variable : goal.invariant-loop-variable
invariant-loop-variable l = with_variables l.table l.structs (drop l.variable-index l.variables) l.parts ≡ with_variables l.table l.structs l.variables l.initial.parts
