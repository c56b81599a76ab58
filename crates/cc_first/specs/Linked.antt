-- Whole programs with their entry.
use Rattle.std.specs.Prelude.{◌≡◌, ◌≢◌, ℕ, List, map, All, Contains, AllPairs}
use Rattle.cc_first_runs.specs.Program.{Function, Program, IsFunction}

-- the names that have a body
abbrev pub heads_of : Program → List (List ℕ)
heads_of program = map (λ function. function.head.text) program

-- no name has two bodies, and each called name has one
pub record IsWhole (program : Program) : Type 0 where
  pub once : AllPairs (λ a b. a ≢ b) (heads_of program)
  pub called : All (λ function. All (λ call. Contains (heads_of program) call.text) function.calls) program

-- function number e has the entry's name
pub record IsEntry (program : Program) (entry : List ℕ) (e : ℕ) : Type 0 where
  pub function : Function
  pub is : IsFunction program e function
  pub named : function.head.text ≡ entry

-- the program has the entry and is whole
abbrev pub IsLinked : Program → List ℕ → ℕ → Type 0
IsLinked program entry e = IsWhole program × IsEntry program entry e

-- the program is not whole or has no such entry
abbrev pub IsUnlinked : Program → List ℕ → Type 0
IsUnlinked program entry = (e : ℕ) → IsLinked program entry e → ⊥
