-- The tokens of the first form, and the spelled tokens that they are written as.
use Rattle.std.specs.Prelude.{◌≡◌, ◌≤◌, if◌then◌else◌, ◌==◌, ◌||◌, ℕ, suc, List, [], ◌∷◌, Bool, true, false, length, codes, take, IfSome}
use Rattle.std.specs.Str.{bytes_eq}
use Rattle.cc_base.specs.declared.place.Spot.{Spot}
use Rattle.cc_base.specs.Spots.{start}
use Rattle.cc_first.specs.Names.{is_word_byte, is_free_name}
use Rattle.cc_first.specs.Cut.{Spelled, IsCut, begins_word}
use Rattle.cc_first.specs.declared.token.Mark.{Mark}
use Rattle.cc_first.specs.declared.token.Mark.TheVariants.{OpenParen, CloseParen, OpenBrace, CloseBrace, Semicolon}
use Rattle.cc_first.specs.declared.token.Kind.{Kind}
use Rattle.cc_first.specs.declared.token.Kind.TheVariants as kind
use Rattle.cc_first.specs.declared.token.Token.{Token}

abbrev pub mark_byte : Mark → ℕ
mark_byte OpenParen = 40
mark_byte CloseParen = 41
mark_byte OpenBrace = 123
mark_byte CloseBrace = 125
mark_byte Semicolon = 59

-- the spelling of a kind of token
abbrev pub text_of : Kind → List ℕ
text_of kind.Void = codes "void"
text_of (kind.Name text) = text.now
text_of (kind.Mark mark) = mark_byte mark ∷ []

-- a name is a free one
abbrev pub IsKind : Kind → Type 0
IsKind kind.Void = Unit {0}
IsKind (kind.Name text) = is_free_name text.now ≡ true
IsKind (kind.Mark mark) = Unit {0}

abbrev pub AreTokens : List Token → Type 0
AreTokens [] = Unit {0}
AreTokens (token ∷ tokens) = IsKind token.kind × AreTokens tokens

abbrev pub is_mark : ℕ → Bool
is_mark b = (b == 40 || b == 41) || ((b == 123 || b == 125) || b == 59)

abbrev pub is_mark_text : List ℕ → Bool
is_mark_text [] = false
is_mark_text (b ∷ []) = is_mark b
is_mark_text (b ∷ c ∷ z) = false

-- `void` or a free name
abbrev pub is_form_word : List ℕ → Bool
is_form_word text = bytes_eq text (codes "void") || is_free_name text

-- the spelling of a token of the first form
abbrev pub is_form_text : List ℕ → Bool
is_form_text text = is_mark_text text || is_form_word text

abbrev pub AreFormTokens : List Spelled → Type 0
AreFormTokens [] = Unit {0}
AreFormTokens (t ∷ ts) = (is_form_text t.text ≡ true) × AreFormTokens ts

-- how many bytes at the front could stand in an identifier
abbrev pub word_len : List ℕ → ℕ
word_len [] = 0
word_len (b ∷ z) = if is_word_byte b then suc (word_len z) else 0

-- how many bytes the token has that begins here
abbrev pub token_len : List ℕ → ℕ
token_len text = if begins_word text then word_len text else 1

-- the token is written so
abbrev pub Writes : Token → Spelled → Type 0
Writes token t = (t.text ≡ text_of token.kind) × IfSome t.spot (λ spot. spot ≡ token.spot)

-- the tokens begin with some that are written so, and the rest follows
abbrev pub Begins : List Token → List Spelled → List Token → Type 0
Begins tokens [] rest = tokens ≡ rest
Begins [] (t ∷ ts) rest = ⊥
Begins (token ∷ tokens) (t ∷ ts) rest = Writes token t × Begins tokens ts rest

-- the tokens are written so
abbrev pub AreWritten : List Token → List Spelled → Type 0
AreWritten tokens ts = Begins tokens ts []

-- the spelled tokens begin with some that these tokens are written as, and the rest follows
abbrev pub Spells : List Token → List Spelled → List Spelled → Type 0
Spells [] ts rest = ts ≡ rest
Spells (token ∷ tokens) [] rest = ⊥
Spells (token ∷ tokens) (t ∷ ts) rest = Writes token t × Spells tokens ts rest

-- what is known of the cuts of the bytes once these tokens are read, and the rest begins at the spot
pub record IsReadTo (bytes : List ℕ) (tokens : List Token) (at : Spot) (rest : List ℕ) : Type 0 where
  pub kinds : AreTokens tokens
  pub cuts : (ts us : List Spelled) → Spells tokens ts us → IsCut at rest us → IsCut start bytes ts
  pub only : (ts : List Spelled) → AreFormTokens ts → IsCut start bytes ts → (us : List Spelled) × Spells tokens ts us × AreFormTokens us × IsCut at rest us

-- the bytes' cuts into tokens of the first form are those that these tokens are written as
pub record IsTokens (bytes : List ℕ) (tokens : List Token) : Type 0 where
  pub kinds : AreTokens tokens
  pub cuts : (ts : List Spelled) → Spells tokens ts [] → IsCut start bytes ts
  pub only : (ts : List Spelled) → AreFormTokens ts → IsCut start bytes ts → Spells tokens ts []

-- no tokens of the first form cut the bytes
abbrev pub NoTokens : List ℕ → Type 0
NoTokens bytes = (ts : List Spelled) → AreFormTokens ts → IsCut start bytes ts → ⊥

-- the token at the front of these bytes
pub record IsFirst (bytes : List ℕ) (found : Kind) (count : ℕ) : Type 0 where
  pub kind : IsKind found
  pub text : text_of found ≡ take count bytes
  pub len : count ≡ token_len bytes
  pub within : count ≤ length bytes
  pub some : 1 ≤ count
