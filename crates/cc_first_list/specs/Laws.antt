-- Laws of the first form.
use Rattle.std.specs.Prelude.{◌≡◌, ℕ, List}
use Rattle.cc_first.specs.Unit.{Part, IsUnit}

-- bytes spell the parts of at most one file of the first form
abbrev pub OneUnit : Type 0
OneUnit = (bytes : List ℕ) (p q : List Part) → IsUnit bytes p → IsUnit bytes q → p ≡ q
