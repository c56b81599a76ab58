-- How many control points a program of the first form has: one for the root, four for each function with a body, its block
-- included, and seven for each call, its statement and the name in it included (docs/points.md).
use Rattle.std.specs.Prelude.{ℕ, ◌+◌, ◌*◌, ◌-◌, ◌^◌, min, List, [], ◌∷◌, length}
use Rattle.cc_first.specs.Unit.{Part, Declaration, Definition}

abbrev pub most_points : ℕ
most_points = 262144

-- 2^64 - 1 stands for that much or more
abbrev pub sum : ℕ → ℕ → ℕ
sum a b = min (a + b) (2 ^ 64 - 1)

abbrev pub seven_times : ℕ → ℕ
seven_times n = min (n * 7) (2 ^ 64 - 1)

-- so many points, and those of a part
abbrev pub with_part : ℕ → Part → ℕ
with_part count (Declaration name) = count
with_part count (Definition name calls) = sum (sum count 4) (seven_times (length calls))

abbrev pub with_parts : ℕ → List Part → ℕ
with_parts count [] = count
with_parts count (part ∷ parts) = with_parts (with_part count part) parts

-- the points of two files together
abbrev pub points : List Part → List Part → ℕ
points first second = with_parts (with_parts 1 first) second
