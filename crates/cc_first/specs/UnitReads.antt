-- What is read at the front of the tokens of a file.
use Rattle.std.specs.Prelude.{◌≡◌, ◌==◌, ◌&&◌, ◌++◌, ℕ, List, [], ◌∷◌, Bool, true, false, Option, None, Some, if◌then◌else◌, codes, length, drop, slice_get}
use Rattle.std.specs.List.{flat_map, list_any, list_all}
use Rattle.std.specs.Str.{bytes_eq}
use Rattle.cc_base.specs.declared.place.Spot.{Spot}
use Rattle.cc_first_runs.specs.Program.{Name}
use Rattle.cc_first.specs.Names.{is_free_name}
use Rattle.cc_first.specs.Cut.{Spelled}
use Rattle.cc_first.specs.Unit.{CallsStand, Part, Declaration, Definition, word, call_tokens, part_tokens, unit_tokens}
use Rattle.cc_first.specs.Tokens.{mark_byte, AreTokens, Begins, AreWritten}
use Rattle.cc_first.specs.declared.token.Mark.{Mark}
use Rattle.cc_first.specs.declared.token.Mark.TheVariants.{OpenParen, CloseParen, Semicolon}
use Rattle.cc_first.specs.declared.token.Kind.{Kind}
use Rattle.cc_first.specs.declared.token.Kind.TheVariants as kind
use Rattle.cc_first.specs.declared.token.Token.{Token}

abbrev pub is_void_kind : Kind → Bool
is_void_kind kind.Void = true
is_void_kind (kind.Name text) = false
is_void_kind (kind.Mark found) = false

abbrev pub is_mark_kind : Mark → Kind → Bool
is_mark_kind mark kind.Void = false
is_mark_kind mark (kind.Name text) = false
is_mark_kind mark (kind.Mark found) = mark_byte found == mark_byte mark

abbrev pub passes : (Kind → Bool) → Option Token → Bool
passes test None = false
passes test (Some token) = test token.kind

-- whether the token at the index is `void`, or this mark
abbrev pub void_at : List Token → ℕ → Bool
void_at tokens at = passes is_void_kind (slice_get tokens at)

abbrev pub mark_at : List Token → ℕ → Mark → Bool
mark_at tokens at mark = passes (is_mark_kind mark) (slice_get tokens at)

abbrev pub name_in : Kind → Spot → Option Name
name_in kind.Void spot = None
name_in (kind.Name text) spot = Some (record { text = text.now; spot = spot })
name_in (kind.Mark found) spot = None

abbrev pub name_of : Option Token → Option Name
name_of None = None
name_of (Some token) = name_in token.kind token.spot

abbrev pub name_at : List Token → ℕ → Option Name
name_at tokens at = name_of (slice_get tokens at)

abbrev pub only_if : Bool → Option Name → Option Name
only_if holds None = None
only_if holds (Some name) = if holds then Some name else None

-- the name of `void ID(void)` at the front
abbrev pub head_at : List Token → Option Name
head_at tokens = only_if (((void_at tokens 0 && mark_at tokens 2 OpenParen) && void_at tokens 3) && mark_at tokens 4 CloseParen) (name_at tokens 1)

-- the name of `ID();` at the front
abbrev pub call_at : List Token → Option Name
call_at tokens = only_if ((mark_at tokens 1 OpenParen && mark_at tokens 2 CloseParen) && mark_at tokens 3 Semicolon) (name_at tokens 0)

abbrev pub IsFree : Name → Type 0
IsFree name = is_free_name name.text ≡ true

abbrev pub AreFree : List Name → Type 0
AreFree [] = Unit {0}
AreFree (name ∷ names) = IsFree name × AreFree names

abbrev pub IsFreePart : Part → Type 0
IsFreePart (Declaration name) = IsFree name
IsFreePart (Definition name calls) = IsFree name × AreFree calls

abbrev pub AreFreeParts : List Part → Type 0
AreFreeParts [] = Unit {0}
AreFreeParts (part ∷ parts) = IsFreePart part × AreFreeParts parts

-- the calls of a body and its `}`
abbrev pub body_tokens : List Name → List Spelled
body_tokens calls = flat_map call_tokens calls ++ word (codes "}") ∷ []

-- the tokens begin with x as it is spelled, and with nothing else that is spelled so
pub record IsAtFront {A : Type 0} (spell : A → List Spelled) (are_free : A → Type 0) (tokens : List Token) (x : A) : Type 0 where
  pub begins : Begins tokens (spell x) (drop (length (spell x)) tokens)
  pub free : are_free x
  pub only : (y : A) (rest : List Token) → are_free y → Begins tokens (spell y) rest → y ≡ x

abbrev pub NoneAtFront : {A : Type 0} → (A → List Spelled) → (A → Type 0) → List Token → Type 0
NoneAtFront {A} spell are_free tokens = (y : A) (rest : List Token) → are_free y → Begins tokens (spell y) rest → ⊥

abbrev pub IsBody : List Token → List Name → Type 0
IsBody tokens calls = IsAtFront body_tokens AreFree tokens calls

abbrev pub NoBody : List Token → Type 0
NoBody tokens = NoneAtFront body_tokens AreFree tokens

abbrev pub IsPart : List Token → Part → Type 0
IsPart tokens part = IsAtFront part_tokens IsFreePart tokens part

abbrev pub NoPart : List Token → Type 0
NoPart tokens = NoneAtFront part_tokens IsFreePart tokens

-- the calls that are read so far, and the tokens behind them
pub record AreCallsTo (tokens : List Token) (calls : List Name) (rest : List Token) : Type 0 where
  pub kinds : AreTokens rest
  pub begins : Begins tokens (flat_map call_tokens calls) rest
  pub free : AreFree calls
  pub only : (ys : List Name) (end : List Token) → AreFree ys → Begins tokens (body_tokens ys) end → (zs : List Name) × (ys ≡ calls ++ zs) × AreFree zs × Begins rest (body_tokens zs) end

-- the parts that are read so far, and the tokens behind them
pub record ArePartsTo (tokens : List Token) (parts : List Part) (rest : List Token) : Type 0 where
  pub kinds : AreTokens rest
  pub begins : Begins tokens (unit_tokens parts) rest
  pub free : AreFreeParts parts
  pub only : (ys : List Part) → AreFreeParts ys → AreWritten tokens (unit_tokens ys) → (zs : List Part) × (ys ≡ parts ++ zs) × AreFreeParts zs × AreWritten rest (unit_tokens zs)

-- the tokens are those of these parts, and of no others
pub record AreParts (tokens : List Token) (parts : List Part) : Type 0 where
  pub written : AreWritten tokens (unit_tokens parts)
  pub free : AreFreeParts parts
  pub only : (ys : List Part) → AreFreeParts ys → AreWritten tokens (unit_tokens ys) → ys ≡ parts

abbrev pub NoParts : List Token → Type 0
NoParts tokens = (ys : List Part) → AreFreeParts ys → AreWritten tokens (unit_tokens ys) → ⊥

-- the text is among the heads
abbrev pub is_among : List (List ℕ) → List ℕ → Bool
is_among heads text = list_any (λ head. bytes_eq text head) heads

abbrev pub head_text : Part → List ℕ
head_text (Declaration name) = name.text
head_text (Definition name calls) = name.text

-- each call of the part is among the heads
abbrev pub calls_among : List (List ℕ) → Part → Bool
calls_among heads (Declaration name) = true
calls_among heads (Definition name calls) = list_all (λ call. is_among heads call.text) calls

-- the calls of all parts stand, if those of the rest do behind the parts so far, whose names are the keys
pub record StandTo (parts rest : List Part) (keys : List (List ℕ)) : Type 0 where
  pub heads : List (List ℕ)
  pub same : (text : List ℕ) → is_among keys text ≡ is_among heads text
  pub back : CallsStand heads rest → CallsStand [] parts
  pub forth : CallsStand [] parts → CallsStand heads rest
