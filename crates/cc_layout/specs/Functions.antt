-- The parameters and the result of a function type (C17 6.7.6.3).
use Rattle.std.specs.Prelude.{ℕ, zero, suc, List, Option, Some, None}
use Rattle.cc_types.specs.declared.shape.Shape.{Shape}
use Rattle.cc_types.specs.declared.shape.Shape.TheVariants as s
use Rattle.cc_types.specs.Interning.{shape_of}

-- what is left of a function type behind its first parameter
abbrev pub behind_one : List Shape → Shape → Option Shape
behind_one ss (s.Takes t f) = Some (shape_of ss f)
behind_one ss a = None

abbrev pub further : (Shape → Option Shape) → Option Shape → Option Shape
further go (Some f) = go f
further go None = None

-- behind its first ones, that many
abbrev pub behind : List Shape → (count : ℕ) → Shape → Option Shape
behind ss zero f = Some f
behind ss (suc count) f = further (behind ss count) (behind_one ss f)

abbrev pub first_of : List Shape → Option Shape → Option Shape
first_of ss (Some (s.Takes t f)) = Some (shape_of ss t)
first_of ss f = None

-- the type of parameter number k, from 0
abbrev pub parameter_of : List Shape → Shape → ℕ → Option Shape
parameter_of ss f k = first_of ss (behind ss k f)

abbrev pub given_by : List Shape → Option Shape → Option Shape
given_by ss (Some (s.Function t)) = Some (shape_of ss t)
given_by ss f = None

-- the type of the result of a function with so many parameters
abbrev pub result_of : List Shape → Shape → ℕ → Option Shape
result_of ss f parameters = given_by ss (behind ss parameters f)
