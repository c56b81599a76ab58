-- How many control points a program has at most.
use Rattle.std.specs.Prelude.{ℕ}

abbrev pub most_points : ℕ
most_points = 262144
