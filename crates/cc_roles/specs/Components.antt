-- Whose component nodes and functions are of.
use Rattle.std.specs.Prelude.{ℕ, Option, Some, None, slice_get}
use Rattle.cc_program.specs.declared.function.FuncId.{FuncId}
use Rattle.cc_program.specs.declared.function.Function.{Function}
use Rattle.cc_program.specs.declared.program.Program.{Program}
use Rattle.cc_program.specs.Programs.{file_of, component_with}

-- the component of a node
abbrev pub component : Program → ℕ → ℕ
component p node = (component_with p (file_of p node)).0

abbrev pub declarator_or : Option Function → ℕ
declarator_or (Some f) = f.declarator
declarator_or None = 0

-- the node at which a function is declared
abbrev pub declarator : Program → FuncId → ℕ
declarator p f = declarator_or (slice_get p.functions f.0)

-- the component of a function: that of its declarator
abbrev pub home : Program → FuncId → ℕ
home p f = component p (declarator p f)
