-- What the class of the next token says of that token.
use Rattle.std.proofs.Common.{◌≡◌, refl, ℕ, Bool, true, false, List, [], ◌∷◌, Option, Some, None, Ok, Err, sym, subst, inl, inr}
use Rattle.cc_base.specs.declared.place.Spot.{Spot}
use Rattle.cc_lex.specs.declared.token.Token.{Token}
use Rattle.cc_lex.specs.declared.token.TokenKind.{TokenKind}
use Rattle.cc_lex.specs.declared.token.TokenKind.TheVariants as kind
use Rattle.cc_lex.specs.declared.keyword.Keyword.{Keyword}
use Rattle.cc_lex.specs.declared.keyword.Keyword.TheVariants as the_keyword
use Rattle.cc_lex.specs.declared.punct.Punct.{Punct}
use Rattle.cc_lex.specs.declared.punct.Punct.TheVariants as the_punct
use Rattle.cc_tree.specs.Trees.{Name}
use Rattle.cc_grammar.specs.Names.{Names, is_type}
use Rattle.cc_grammar.specs.Levels.{unary_punct, step_punct, binary_punct, assign_punct, word_keyword}
use Rattle.cc_grammar.specs.Outline.{Outline, end, token, FitsSpot}
use Rattle.cc_grammar.specs.Outlines.{identifier, punct}
use Rattle.cc_grammar.specs.Classes.{skip, spot, ident, next_ident, literal, next_literal, Start, begins_name, begins_integer, begins_character, begins_string, begins_paren, begins_unary, begins_step, begins_sizeof, begins_nothing, start_punct, start_keyword, start_kind, start, Tail, goes_binary, goes_assign, goes_question, goes_comma, goes_call, goes_index, goes_dot, goes_arrow, goes_step, ends_here, tail_punct, tail_kind, tail, SpecStart, spec_word, spec_struct, spec_enum, spec_named, no_spec, spec_keyword, spec_kind, spec_start}
use Rattle.cc_grammar.specs.Reading.{skipping, id_by, id}
use Rattle.cc_grammar.specs.Outcomes.{pure, refuse, take}
use Rattle.cc_parse_laws.proofs.Spans.{Reads}
use Rattle.cc_parse_laws.proofs.Steps.{branched, ok_is, take_reads}

-- the next token is this one
abbrev pub NextKind : TokenKind → List Token → Type 0
NextKind w [] = ⊥
NextKind w (t ∷ ts) = t.kind ≡ w

-- it is read
pub kind_reads : (h : Type 0) (w : TokenKind) (n : Option Spot) (o : Outline) (d : ℕ) (ts r : List Token) → NextKind w ts → h → FitsSpot n (spot ts) → Reads o d (skip ts) r → Reads (token h w n o) d ts r
kind_reads h w n o d [] r e a s x = absurd e
kind_reads h w n o d (t ∷ ts) r e a s x = (a, e, s, x)

-- a punctuator that was taken as the last one
pub take_last : (s : Punct) (d : ℕ) (ts : List Token) (x : Unit {0} × List Token) → take s ts ≡ Ok x → Reads (punct s end) d ts x.1
take_last s d ts x e = take_reads s end d ts x.1 x e refl

-- the token of a class, if it has one
abbrev Is : Option TokenKind → TokenKind → Type 0
Is None k = Unit {0}
Is (Some w) k = k ≡ w

is_next : (of : Option TokenKind) (w : TokenKind) (t : Token) (ts : List Token) → Is of t.kind → of ≡ Some w → NextKind w (t ∷ ts)
is_next of w t ts i e = subst (λ y. Is y t.kind) e i

-- ---- How an expression begins

abbrev pub start_token : Start → Option TokenKind
start_token (begins_name x) = Some (kind.Identifier x)
start_token (begins_integer v c) = Some (kind.Integer v c)
start_token (begins_character v) = Some (kind.Character v)
start_token (begins_string bytes) = Some (kind.Str bytes)
start_token begins_paren = Some (kind.Punct the_punct.LeftParen)
start_token (begins_unary op) = Some (kind.Punct (unary_punct op))
start_token (begins_step op) = Some (kind.Punct (step_punct op))
start_token begins_sizeof = Some (kind.Keyword the_keyword.Sizeof)
start_token begins_nothing = None

start_punct_is : (t : Punct) → Is (start_token (start_punct t)) (kind.Punct t)
start_punct_is the_punct.LeftParen = refl
start_punct_is the_punct.And = refl
start_punct_is the_punct.Star = refl
start_punct_is the_punct.Plus = refl
start_punct_is the_punct.Minus = refl
start_punct_is the_punct.Tilde = refl
start_punct_is the_punct.Not = refl
start_punct_is the_punct.PlusPlus = refl
start_punct_is the_punct.MinusMinus = refl
start_punct_is _ = tt

start_keyword_is : (w : Keyword) → Is (start_token (start_keyword w)) (kind.Keyword w)
start_keyword_is the_keyword.Sizeof = refl
start_keyword_is _ = tt

start_kind_is : (w : TokenKind) → Is (start_token (start_kind w)) w
start_kind_is (kind.Identifier x) = refl
start_kind_is (kind.Integer v c) = refl
start_kind_is (kind.Character v) = refl
start_kind_is (kind.Str bytes) = refl
start_kind_is (kind.Punct t) = start_punct_is t
start_kind_is (kind.Keyword w) = start_keyword_is w

pub start_next : (w : TokenKind) (ts : List Token) → start_token (start ts) ≡ Some w → NextKind w ts
start_next w [] e = absurd cc
start_next w (t ∷ ts) e = is_next (start_token (start_kind t.kind)) w t ts (start_kind_is t.kind) e

-- ---- How an expression goes on

abbrev pub tail_token : Tail → Option TokenKind
tail_token (goes_binary op) = Some (kind.Punct (binary_punct op))
tail_token (goes_assign op) = Some (kind.Punct (assign_punct op))
tail_token goes_question = Some (kind.Punct the_punct.Question)
tail_token goes_comma = Some (kind.Punct the_punct.Comma)
tail_token goes_call = Some (kind.Punct the_punct.LeftParen)
tail_token goes_index = Some (kind.Punct the_punct.LeftBracket)
tail_token goes_dot = Some (kind.Punct the_punct.Dot)
tail_token goes_arrow = Some (kind.Punct the_punct.Arrow)
tail_token (goes_step op) = Some (kind.Punct (step_punct op))
tail_token ends_here = None

tail_punct_is : (t : Punct) → Is (tail_token (tail_punct t)) (kind.Punct t)
tail_punct_is the_punct.OrOr = refl
tail_punct_is the_punct.AndAnd = refl
tail_punct_is the_punct.Or = refl
tail_punct_is the_punct.Caret = refl
tail_punct_is the_punct.And = refl
tail_punct_is the_punct.EqualEqual = refl
tail_punct_is the_punct.NotEqual = refl
tail_punct_is the_punct.Less = refl
tail_punct_is the_punct.LessEqual = refl
tail_punct_is the_punct.Greater = refl
tail_punct_is the_punct.GreaterEqual = refl
tail_punct_is the_punct.ShiftLeft = refl
tail_punct_is the_punct.ShiftRight = refl
tail_punct_is the_punct.Plus = refl
tail_punct_is the_punct.Minus = refl
tail_punct_is the_punct.Star = refl
tail_punct_is the_punct.Slash = refl
tail_punct_is the_punct.Percent = refl
tail_punct_is the_punct.Equal = refl
tail_punct_is the_punct.StarEqual = refl
tail_punct_is the_punct.SlashEqual = refl
tail_punct_is the_punct.PercentEqual = refl
tail_punct_is the_punct.PlusEqual = refl
tail_punct_is the_punct.MinusEqual = refl
tail_punct_is the_punct.ShiftLeftEqual = refl
tail_punct_is the_punct.ShiftRightEqual = refl
tail_punct_is the_punct.AndEqual = refl
tail_punct_is the_punct.CaretEqual = refl
tail_punct_is the_punct.OrEqual = refl
tail_punct_is the_punct.Question = refl
tail_punct_is the_punct.Comma = refl
tail_punct_is the_punct.LeftParen = refl
tail_punct_is the_punct.LeftBracket = refl
tail_punct_is the_punct.Dot = refl
tail_punct_is the_punct.Arrow = refl
tail_punct_is the_punct.PlusPlus = refl
tail_punct_is the_punct.MinusMinus = refl
tail_punct_is _ = tt

tail_kind_is : (w : TokenKind) → Is (tail_token (tail_kind w)) w
tail_kind_is (kind.Punct t) = tail_punct_is t
tail_kind_is _ = tt

pub tail_next : (w : TokenKind) (ts : List Token) → tail_token (tail ts) ≡ Some w → NextKind w ts
tail_next w [] e = absurd cc
tail_next w (t ∷ ts) e = is_next (tail_token (tail_kind t.kind)) w t ts (tail_kind_is t.kind) e

-- ---- How a specifier begins

abbrev pub spec_token : SpecStart → Option TokenKind
spec_token (spec_word w) = Some (kind.Keyword (word_keyword w))
spec_token spec_struct = Some (kind.Keyword the_keyword.Struct)
spec_token spec_enum = Some (kind.Keyword the_keyword.Enum)
spec_token (spec_named x) = Some (kind.Identifier x)
spec_token no_spec = None

-- a typedef name is one
abbrev pub IsNamed : Names → SpecStart → Type 0
IsNamed names (spec_word w) = Unit {0}
IsNamed names spec_struct = Unit {0}
IsNamed names spec_enum = Unit {0}
IsNamed names (spec_named x) = is_type names x ≡ true
IsNamed names no_spec = Unit {0}

spec_keyword_is : (names : Names) (w : Keyword) → Is (spec_token (spec_keyword w)) (kind.Keyword w) × IsNamed names (spec_keyword w)
spec_keyword_is names the_keyword.Typedef = (refl, tt)
spec_keyword_is names the_keyword.Extern = (refl, tt)
spec_keyword_is names the_keyword.Static = (refl, tt)
spec_keyword_is names the_keyword.Inline = (refl, tt)
spec_keyword_is names the_keyword.Const = (refl, tt)
spec_keyword_is names the_keyword.Void = (refl, tt)
spec_keyword_is names the_keyword.Char = (refl, tt)
spec_keyword_is names the_keyword.Short = (refl, tt)
spec_keyword_is names the_keyword.Int = (refl, tt)
spec_keyword_is names the_keyword.Long = (refl, tt)
spec_keyword_is names the_keyword.Signed = (refl, tt)
spec_keyword_is names the_keyword.Unsigned = (refl, tt)
spec_keyword_is names the_keyword.Bool = (refl, tt)
spec_keyword_is names the_keyword.Struct = (refl, tt)
spec_keyword_is names the_keyword.Enum = (refl, tt)
spec_keyword_is names _ = (tt, tt)

spec_kind_is : (names : Names) (w : TokenKind) → Is (spec_token (spec_kind names w)) w × IsNamed names (spec_kind names w)
spec_kind_is names (kind.Keyword w) = spec_keyword_is names w
spec_kind_is names (kind.Identifier x) = decided (is_type names x) refl
  where
    decided : (b : Bool) → is_type names x ≡ b → Is (spec_token (spec_kind names (kind.Identifier x))) (kind.Identifier x) × IsNamed names (spec_kind names (kind.Identifier x))
    decided true e = subst (λ s. Is (spec_token s) (kind.Identifier x) × IsNamed names s) (let same : spec_named x ≡ spec_kind names (kind.Identifier x) = rw e refl in same) (refl, e)
    decided false e = subst (λ s. Is (spec_token s) (kind.Identifier x) × IsNamed names s) (let same : no_spec ≡ spec_kind names (kind.Identifier x) = rw e refl in same) (tt, tt)
spec_kind_is names (kind.Punct t) = (tt, tt)
spec_kind_is names (kind.Integer v c) = (tt, tt)
spec_kind_is names (kind.Character v) = (tt, tt)
spec_kind_is names (kind.Str bytes) = (tt, tt)

pub spec_next : (names : Names) (w : TokenKind) (ts : List Token) → spec_token (spec_start names ts) ≡ Some w → NextKind w ts
spec_next names w [] e = absurd cc
spec_next names w (t ∷ ts) e = is_next (spec_token (spec_kind names t.kind)) w t ts ((spec_kind_is names t.kind).0) e

pub spec_is_named : (names : Names) (x : Name) (ts : List Token) → spec_start names ts ≡ spec_named x → is_type names x ≡ true
spec_is_named names x [] e = absurd cc
spec_is_named names x (t ∷ ts) e = subst (IsNamed names) e ((spec_kind_is names t.kind).1)

-- ---- Names and literals

ident_kind : (w : TokenKind) (x : Name) → ident w ≡ Some x → w ≡ kind.Identifier x
ident_kind (kind.Identifier y) x e = cc
ident_kind (kind.Str bytes) x e = absurd cc
ident_kind (kind.Punct t) x e = absurd cc
ident_kind (kind.Keyword v) x e = absurd cc
ident_kind (kind.Integer v c) x e = absurd cc
ident_kind (kind.Character v) x e = absurd cc

pub ident_next : (x : Name) (ts : List Token) → next_ident ts ≡ Some x → NextKind (kind.Identifier x) ts
ident_next x [] e = absurd cc
ident_next x (t ∷ ts) e = ident_kind t.kind x e

literal_kind : (w : TokenKind) (bytes : List ℕ) → literal w ≡ Some bytes → w ≡ kind.Str bytes
literal_kind (kind.Str b) bytes e = cc
literal_kind (kind.Identifier y) bytes e = absurd cc
literal_kind (kind.Punct t) bytes e = absurd cc
literal_kind (kind.Keyword v) bytes e = absurd cc
literal_kind (kind.Integer v c) bytes e = absurd cc
literal_kind (kind.Character v) bytes e = absurd cc

pub literal_next : (bytes : List ℕ) (ts : List Token) → next_literal ts ≡ Some bytes → NextKind (kind.Str bytes) ts
literal_next bytes [] e = absurd cc
literal_next bytes (t ∷ ts) e = literal_kind t.kind bytes e

-- a name that was read
pub id_ok : (names : Names) (ts : List Token) (x : Name × List Token) → id names ts ≡ Ok x → (is_type names x.0 ≡ false) × NextKind (kind.Identifier x.0) ts × (skip ts ≡ x.1)
id_ok names ts x e = by (next_ident ts) refl e
  where
    by : (y : Option Name) → next_ident ts ≡ y → id_by names y ts ≡ Ok x → (is_type names x.0 ≡ false) × NextKind (kind.Identifier x.0) ts × (skip ts ≡ x.1)
    by None i f = absurd cc
    by (Some y) i f = elim (branched (is_type names y) refuse (skipping (pure y)) ts (Ok x) f) [
      | inl c ↦ absurd (let no : Err ts ≡ Ok x = c.1 in cc)
      | inr c ↦
          subst (λ (z : Name × List Token). (is_type names z.0 ≡ false) × NextKind (kind.Identifier z.0) ts × (skip ts ≡ z.1)) (ok_is (y, skip ts) x c.1)
          (c.0, ident_next y ts i, refl)
    ]

pub id_reads : (names : Names) (n : Option Spot) (o : Outline) (d : ℕ) (ts r : List Token) (x : Name × List Token) → id names ts ≡ Ok x → FitsSpot n (spot ts) → Reads o d x.1 r → Reads (identifier names n x.0 o) d ts r
id_reads names n o d ts r x e at rest =
    let i = id_ok names ts x e in
    kind_reads (is_type names x.0 ≡ false) (kind.Identifier x.0) n o d ts r i.1 i.0 at (subst (λ us. Reads o d us r) (sym i.2) rest)
