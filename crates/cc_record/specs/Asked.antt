-- Which names' reads are asked for.
use Rattle.std.specs.Prelude.{◌≡◌, ◌<◌, ℕ, List, Bool, true, false, Option, Some, None, Contains, cond, nat_eq, slice_get}
use Rattle.cc_program.specs.declared.program.Program.{Program}
use Rattle.cc_record_tables.specs.declared.activations.Activations.{Activations}
use Rattle.cc_record_tables.specs.ActivationTable.{Answers, has_read_place}
use Rattle.cc_roles.specs.Calls.{arguments}
use Rattle.cc_roles.specs.Names.{named, returned}

abbrev pub or_true : Option Bool → Bool
or_true (Some b) = b
or_true None = true

-- what the occurrence reads is asked for; past the end of the table all is
abbrev pub is_asked : List Bool → ℕ → Bool
is_asked asked occ = or_true (slice_get asked occ)

-- what is asked for stays
abbrev pub Grows : List Bool → List Bool → Type 0
Grows old new = (u : ℕ) → is_asked old u ≡ true → is_asked new u ≡ true

-- the name is asked for, if there is one
abbrev pub IsMarked : List Bool → Option ℕ → Type 0
IsMarked asked (Some u) = is_asked asked u ≡ true
IsMarked asked None = Unit {0}

-- the names that these arguments are
abbrev pub AreMarked : Program → List Bool → List ℕ → Type 0
AreMarked p asked arguments = (arg : ℕ) → Contains arguments arg → IsMarked asked (named p arg)

-- the names that the arguments and returns of the first `count` nodes are
pub record MarkedTo (p : Program) (asked : List Bool) (count : ℕ) : Type 0 where
  pub arguments : (n : ℕ) → n < count → AreMarked p asked (arguments p.arena n)
  pub returned : (n : ℕ) → n < count → IsMarked asked (returned p n)

-- what the occurrence reads in the activation has a place, if it is asked for
abbrev pub HasRoom : List Bool → Activations → ℕ → ℕ → Type 0
HasRoom asked table act occ = is_asked asked occ ≡ true → has_read_place table act occ ≡ true

-- The occurrence has read this in the activation, and in what is asked for no other answer changes.
pub record Reads (asked : List Bool) (act occ : ℕ) (definition : Option ℕ) (old new : Answers) : Type 0 where
  pub entry : (b : ℕ) → new.entry b ≡ old.entry b
  pub passing : (b n : ℕ) → new.passing b n ≡ old.passing b n
  pub read : (b u : ℕ) → is_asked asked u ≡ true → new.read b u ≡ cond (cond (nat_eq occ u) (nat_eq act b) false) definition (old.read b u)
