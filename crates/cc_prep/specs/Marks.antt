-- Places of a file.
use Rattle.std.specs.Prelude.{◌≡◌, ◌≤◌, ◌+◌, ◌-◌, ◌^◌, ◌==◌, ℕ, min, List, length, if◌then◌else◌}
use Rattle.cc_base.specs.declared.place.Spot.{Spot}
use Rattle.cc_lex.specs.Spots.{spot_at}
use Rattle.cc_prep.specs.declared.mark.Mark.{Mark}

-- the mark is a place of the bytes: a byte or their end
pub record IsMark (bytes : List ℕ) (mark : Mark) : Type 0 where
  pub within : mark.at ≤ length bytes
  pub spot_is : mark.spot ≡ spot_at bytes mark.at
  pub line : mark.spot.line ≤ 1 + mark.at
  pub column : mark.spot.column ≤ 1 + mark.at

-- the spot is that of an offset of the bytes, or of their end
abbrev pub IsSpotIn : List ℕ → Spot → Type 0
IsSpotIn bytes spot = (offset : ℕ) × (offset ≤ length bytes) × (spot ≡ spot_at bytes offset)

-- the spot in a file of what stands at this spot of a part of it that begins at `first`; a number stops at its end
abbrev pub shifted : Spot → Spot → Spot
shifted first spot =
    if spot.line == 1 then record { line = first.line; column = min (first.column + spot.column) (2 ^ 32 - 1) - 1 }
    else record { line = min (first.line + spot.line) (2 ^ 32 - 1) - 1; column = spot.column }
