-- Bytes as tokens with white bytes between them (C17 6.4).
use Rattle.std.specs.Prelude.{◌≡◌, ◌==◌, ◌&&◌, ◌||◌, ◌++◌, ℕ, List, [], ◌∷◌, Bool, true, false, not, nat_le, Option, IfSome}
use Rattle.std.specs.List.{list_all}
use Rattle.cc_base.specs.declared.place.Spot.{Spot}
use Rattle.cc_base.specs.Spots.{spot_behind}
use Rattle.cc_first.specs.Names.{is_word_byte}

-- space, tab, line feed, vertical tab, form feed and carriage return
abbrev pub is_white : ℕ → Bool
is_white b = b == 32 || (nat_le 9 b && nat_le b 13)

-- a token's spelling, and where it stands if that is asked
pub record Spelled : Type 0 where
  pub text : List ℕ
  pub spot : Option Spot

abbrev pub begins_word : List ℕ → Bool
begins_word [] = false
begins_word (b ∷ z) = is_word_byte b

-- no token that begins as this one is longer: a word ends where no byte of a word follows, and no longer token
-- begins with a punctuator of the first form (C17 6.4p4)
abbrev pub is_longest : List ℕ → List ℕ → Bool
is_longest text rest = not (begins_word text && begins_word rest)

-- the bytes, whose first stands at the spot, are these tokens, each the longest at its place, with white bytes between
abbrev pub IsCut : Spot → List ℕ → List Spelled → Type 0
IsCut at bytes [] = list_all is_white bytes ≡ true
IsCut at bytes (token ∷ tokens) =
    (gap : List ℕ) × (rest : List ℕ) × (bytes ≡ gap ++ (token.text ++ rest)) × (list_all is_white gap ≡ true)
    × IfSome token.spot (λ spot. spot ≡ spot_behind at gap) × (is_longest token.text rest ≡ true)
    × IsCut (spot_behind at (gap ++ token.text)) rest tokens
