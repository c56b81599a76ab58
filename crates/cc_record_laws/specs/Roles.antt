-- What the occurrences of a program are to its runs.
use Rattle.std.specs.Prelude.{ℕ, Bool, Option}
use Rattle.cc_program.specs.declared.function.FuncId.{FuncId}

pub record Roles : Type 0 where
  -- the component of an occurrence
  pub component : ℕ → ℕ
  -- the component of a function
  pub home : FuncId → ℕ
  -- the argument of this number, counted from 1, of a call
  pub argument : ℕ → ℕ → Option ℕ
  -- the name of a scalar variable that an argument is, parentheses aside
  pub named : ℕ → Option ℕ
  -- the name of a scalar variable whose value a return statement gives, parentheses aside
  pub returned : ℕ → Option ℕ
  -- the value of a call is used
  pub is_used : ℕ → Bool
