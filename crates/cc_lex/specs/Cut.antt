-- The one cut of a text into tokens (C17 6.4, paragraph 4).
use Rattle.std.specs.Prelude.{ℕ, ◌≡◌, true, List, [], ◌∷◌, ◌++◌, drop}
use Rattle.cc_base.specs.declared.place.Spot.{Spot}
use Rattle.cc_base.specs.Spots.{start, spot_behind}
use Rattle.cc_lex.specs.declared.token.Token.{Token}
use Rattle.cc_lex.specs.declared.token.LexFault.{LexFault}
use Rattle.cc_lex.specs.declared.token.LexFault.TheVariants as fault
use Rattle.cc_lex.specs.Spellings.{is_token}
use Rattle.cc_lex.specs.Meanings.{meaning}
use Rattle.cc_lex.specs.Pieces.{Piece, white, comment, line, token, Longest, Cuts}
use Rattle.cc_lex.specs.Faults.{LexFaulty, IsLeastFault}
use Rattle.cc_lex.specs.Spots.{spot_at}

-- the tokens among the pieces, the first of which stands at the spot
abbrev pub tokens_from : Spot → List Piece → List Token
tokens_from s [] = []
tokens_from s (white w ∷ ps) = tokens_from (spot_behind s w) ps
tokens_from s (comment w ∷ ps) = tokens_from (spot_behind s w) ps
tokens_from s (line w ∷ ps) = tokens_from (spot_behind s w) ps
tokens_from s (token w k ∷ ps) = record { kind = k; spot = s } ∷ tokens_from (spot_behind s w) ps

-- no offset of the bytes is faulty
abbrev pub IsFaultless : List ℕ → Type 0
IsFaultless bytes = (offset rule : ℕ) → LexFaulty bytes offset rule → ⊥

-- No offset of the bytes is faulty, they are a sequence of pieces, and the tokens are those among the pieces.
pub record Cut (bytes : List ℕ) (tokens : List Token) : Type 0 where
  pub faultless : IsFaultless bytes
  pub pieces : List Piece
  pub cuts : Cuts true pieces bytes []
  pub tokens_are : tokens ≡ tokens_from start pieces

-- The fault is the least one, or memory was wanting.
abbrev pub IsRefused : List ℕ → LexFault → Type 0
IsRefused bytes (fault.At offset rule) = IsLeastFault bytes (offset, rule)
IsRefused bytes fault.Memory = Unit {0}

-- The token is the longest at the offset, means what its spelling means, and has the offset's spot.
pub record StandsAt (bytes : List ℕ) (offset : ℕ) (t : Token) : Type 0 where
  pub spelling : List ℕ
  pub rest : List ℕ
  pub there : drop offset bytes ≡ spelling ++ rest
  pub longest : Longest is_token spelling (spelling ++ rest)
  pub kind_is : t.kind ≡ meaning spelling
  pub spot_is : t.spot ≡ spot_at bytes offset
