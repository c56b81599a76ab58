-- Lines and columns of the offsets of a text, from 1.
use Rattle.std.specs.Prelude.{ℕ, ◌==◌, if◌then◌else◌, Bool, List, [], ◌∷◌, take}
use Rattle.std.specs.List.{list_any}
use Rattle.cc_base.specs.declared.place.Spot.{Spot}
use Rattle.cc_base.specs.Spots.{start, spot_behind}

-- where the byte at the offset stands
abbrev pub spot_at : List ℕ → ℕ → Spot
spot_at bytes offset = spot_behind start (take offset bytes)

abbrev pub is_feed : ℕ → Bool
is_feed b = b == 10

-- the bytes behind the last line feed
abbrev pub behind_last : List ℕ → List ℕ
behind_last [] = []
behind_last (b ∷ z) = if list_any is_feed z then behind_last z else if is_feed b then z else b ∷ z
