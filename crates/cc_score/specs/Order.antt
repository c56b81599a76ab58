-- The order of rows.
use Rattle.std.specs.Prelude.{◌≡◌, ◌<◌, ◌≤◌, ◌⊎◌, ℕ, List, Some, slice_get}
use Rattle.cc_meaning.specs.declared.coupling.Coupling.{Coupling}
use Rattle.cc_score.specs.Groups.{kind_of, definition_or}

-- the first row stands before the other one, by kind and, past the calls, by definition, or the two do not differ in these
abbrev pub Leads : Coupling → Coupling → Type 0
Leads a b = (kind_of a < kind_of b) ⊎ ((kind_of a ≡ kind_of b) × (definition_or a ≤ definition_or b))

-- rows are ordered by kind and, past the calls, by definition
abbrev pub IsOrdered : List Coupling → Type 0
IsOrdered rows = (i j : ℕ) (a b : Coupling) → i < j → slice_get rows i ≡ Some a → slice_get rows j ≡ Some b → Leads a b
