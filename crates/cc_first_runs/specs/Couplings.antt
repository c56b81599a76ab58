-- Call couplings of a program of the first form.
use Rattle.std.specs.Prelude.{◌≡◌, ◌≢◌, ◌<◌, ◌⊎◌, ℕ, List, [], ◌∷◌, All, Contains}
use Rattle.cc_first_runs.specs.Program.{Program, IsSite}
use Rattle.cc_first_runs.specs.Points.{At, IsReachable}

-- a row for a call: call number i in function number f, of function number g
pub record Row : Type 0 where
  pub f : ℕ
  pub i : ℕ
  pub g : ℕ

-- the call names the function, which is of another component, and a path reaches it
pub record IsCoupling (program : Program) (entry : ℕ) (row : Row) : Type 0 where
  pub site : IsSite program row.f row.i row.g
  pub apart : site.caller.file ≢ site.callee.file
  pub reachable : IsReachable program entry (At row.f row.i)

-- a row stands before another: its call does. The called function needs no comparison: the programs that are listed have
-- no name with two bodies, so that a call is of one function, and two rows of one call are the same row
abbrev pub IsBefore : Row → Row → Type 0
IsBefore a b = (a.f < b.f) ⊎ ((a.f ≡ b.f) × (a.i < b.i))

-- the rows are in the order of their calls, each once
abbrev pub IsOrdered : List Row → Type 0
IsOrdered [] = Unit {0}
IsOrdered (row ∷ rest) = All (IsBefore row) rest × IsOrdered rest

-- these rows are the call couplings, in order, each once
pub record AreCouplings (program : Program) (entry : ℕ) (rows : List Row) : Type 0 where
  pub sound : (row : Row) → Contains rows row → IsCoupling program entry row
  pub complete : (row : Row) → IsCoupling program entry row → Contains rows row
  pub ordered : IsOrdered rows
