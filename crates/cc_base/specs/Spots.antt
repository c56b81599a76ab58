-- Lines and columns of the bytes of a file.
use Rattle.std.specs.Prelude.{◌==◌, ◌+◌, ℕ, List, [], ◌∷◌, if◌then◌else◌}
use Rattle.cc_base.specs.declared.place.Spot.{Spot}

-- where the first byte of a file stands
abbrev pub start : Spot
start = record { line = 1; column = 1 }

-- where the byte after this one stands: a line feed ends a line
abbrev pub next_spot : Spot → ℕ → Spot
next_spot at byte = if byte == 10 then record { line = at.line + 1; column = 1 } else record at { column = at.column + 1 }

-- where the byte after these stands
abbrev pub spot_behind : Spot → List ℕ → Spot
spot_behind at [] = at
spot_behind at (byte ∷ rest) = spot_behind (next_spot at byte) rest
