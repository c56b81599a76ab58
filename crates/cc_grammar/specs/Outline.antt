-- What a tree is made of, in the order of the text: its tokens and its parts, each with what must hold where it stands.
use Rattle.std.specs.Prelude.{◌≡◌, ℕ, zero, suc, ◌+◌, ◌-◌, max, Bool, true, false, List, [], ◌∷◌, Option, Some, None}
use Rattle.cc_base.specs.declared.place.Spot.{Spot}
use Rattle.cc_lex.specs.declared.token.Token.{Token}
use Rattle.cc_lex.specs.declared.token.TokenKind.{TokenKind}

-- A token has the spot that it gives to a node, if it fixes the place of one. A part counts for the depth or doesn't.
pub data Outline : Type 1 where
  end : Outline
  token : Type 0 → TokenKind → Option Spot → Outline → Outline
  part : Bool → Type 0 → Outline → Outline → Outline

-- one after another
infixr 5 ◌▸◌
abbrev pub ◌▸◌ : (Outline → Outline) → Outline → Outline
p ▸ o = p o

-- ---- Spelling

-- a token of the spelling, and the spot that it must have, if any
pub record Written : Type 0 where
  pub kind : TokenKind
  pub spot : Option Spot

-- the tokens, with others after them
abbrev pub spell : Outline → List Written → List Written
spell end r = r
spell (token h k s o) r = record { kind = k; spot = s } ∷ spell o r
spell (part c h i o) r = spell i (spell o r)

-- it is the spot that is wanted, if one is
abbrev pub FitsSpot : Option Spot → Spot → Type 0
FitsSpot None spot = Unit {0}
FitsSpot (Some s) spot = spot ≡ s

-- the tokens are those that are written
abbrev pub Meets : List Token → List Written → Type 0
Meets [] [] = Unit {0}
Meets [] (w ∷ ws) = ⊥
Meets (t ∷ ts) [] = ⊥
Meets (t ∷ ts) (w ∷ ws) = (t.kind ≡ w.kind) × FitsSpot w.spot t.spot × Meets ts ws

-- ---- Order and depth

abbrev pub AllHold : Outline → Type 0
AllHold end = Unit {0}
AllHold (token h k s o) = h × AllHold o
AllHold (part c h i o) = h × AllHold i × AllHold o

abbrev pub deeper : Bool → ℕ → ℕ
deeper true d = d + 1
deeper false d = d

-- the greatest number of parts that count, one in another
abbrev pub depth : Outline → ℕ
depth end = 0
depth (token h k s o) = depth o
depth (part c h i o) = max (deeper c (depth i)) (depth o)

-- ---- Cut off

abbrev pub size : Outline → ℕ
size end = 0
size (token h k s o) = suc (size o)
size (part c h i o) = size i + size o

-- The first tokens alone. A part is there where one of its tokens is or, if it has none, where a token after it is.
abbrev pub first : ℕ → Outline → Outline
first zero o = end
first (suc n) end = end
first (suc n) (token h k s o) = token h k s (first n o)
first (suc n) (part c h i o) = part c h (first (suc n) i) (first (suc n - size i) o)
