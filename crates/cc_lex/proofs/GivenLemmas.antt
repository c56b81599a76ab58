-- The tokens of a cut can be given.
use Rattle.std.proofs.Common.{◌≡◌, ℕ, ◌≤◌, ◌<◌, Bool, true, false, cond, eqb, leb, ltb, List, [], ◌∷◌, ◌++◌, Option, Some, None, pos, Contains, refl, sym, ap, ◌∙◌, subst, arith, inl, inr}
use Rattle.std.specs.Prelude.{unwrap_or, ◌≤ℤ◌}
use Rattle.std.specs.List.{list_all}
use Rattle.std.proofs.lemmas.Bool.{and_from, and_parts, cases_Bool, leb-true, ltb-false, ltb-true}
use Rattle.std.proofs.lemmas.Int.{ints}
use Rattle.cc_arith.specs.declared.kind.IntKind.{IntKind}
use Rattle.cc_arith.specs.declared.kind.IntKind.TheVariants as kind
use Rattle.cc_arith.specs.declared.kind.IntKind.TheVariants.{Char, Int, UInt, Long, ULong, LLong, ULLong}
use Rattle.cc_arith.specs.Kinds.{is_in_range, IsInRange}
use Rattle.cc_lex.specs.declared.keyword.Keyword.{Keyword}
use Rattle.cc_lex.specs.declared.number.Suffix.{Suffix}
use Rattle.cc_lex.specs.declared.token.Token.{Token}
use Rattle.cc_lex.specs.declared.token.TokenKind.TheVariants as token_kind
use Rattle.cc_lex.specs.Bytes.{first, is_letter}
use Rattle.cc_lex.specs.Spellings.{is_name, is_token, begins_number, keywords}
use Rattle.cc_lex.specs.Numbers.{digits_of, suffix_of, suffix_meaning, value_of, types_of_rank, types_for, first_fit, base_of, type_with, type_of, number_faults}
use Rattle.cc_lex.specs.Characters.{as_char}
use Rattle.cc_lex.specs.Meanings.{lookup, named, word, faults, meaning}
use Rattle.cc_lex.specs.Pieces.{Piece, white, comment, line, token, Cuts, starts_after}
use Rattle.cc_lex.specs.Cut.{Cut, tokens_from}
use Rattle.cc_lex.specs.Given.{is_constant_kind, CanBeGiven}
use Rattle.cc_base.specs.declared.place.Spot.{Spot}
use Rattle.cc_base.specs.Spots.{start, spot_behind}
use Rattle.cc_lex.proofs.TypeLemmas.{top, fits_top}
use Rattle.cc_lex.proofs.FaultLemmas.{contained_cases, contains_none, with_none, number_sound}
use Rattle.cc_lex.proofs.MeaningLemmas.{name_of_letter}

-- ---- Integers

fit_passes : (n : ℕ) (ks : List IntKind) (k : IntKind) → list_all is_constant_kind ks ≡ true → first_fit n ks ≡ Some k → (is_constant_kind k ≡ true) × (is_in_range k (pos n) ≡ true)
fit_passes n [] k a e = absurd cc
fit_passes n (j ∷ ks) k a e =
    let p = and_parts (is_constant_kind j) (list_all is_constant_kind ks) a in
    elim (cases_Bool (is_in_range j (pos n))) [
      | inl f ↦
          let same : Some j ≡ Some k = rw f at e in
          let is : j ≡ k = cc in
          (subst (λ i. is_constant_kind i ≡ true) is p.0, subst (λ i. is_in_range i (pos n) ≡ true) is f)
      | inr f ↦ fit_passes n ks k p.1 (rw f at e)
    ]

all_append : (ks js : List IntKind) → list_all is_constant_kind ks ≡ true → list_all is_constant_kind js ≡ true → list_all is_constant_kind (ks ++ js) ≡ true
all_append [] js a b = b
all_append (k ∷ ks) js a b = let p = and_parts (is_constant_kind k) (list_all is_constant_kind ks) a in and_from _ _ p.0 (all_append ks js p.1 b)

rank_all : (u d : Bool) (s k : IntKind) → is_constant_kind s ≡ true → is_constant_kind k ≡ true → list_all is_constant_kind (types_of_rank u d s k) ≡ true
rank_all true d s k a b = and_from _ _ b refl
rank_all false true s k a b = and_from _ _ a refl
rank_all false false s k a b = and_from _ _ a (and_from _ _ b refl)

if_all : (c : Bool) (ks : List IntKind) → list_all is_constant_kind ks ≡ true → list_all is_constant_kind (cond c ks []) ≡ true
if_all true ks a = a
if_all false ks a = refl

types_all : (u d : Bool) (longs : ℕ) → list_all is_constant_kind (types_for u d longs) ≡ true
types_all u d longs =
    all_append (cond (eqb longs 0) (types_of_rank u d Int UInt) []) _ (if_all (eqb longs 0) (types_of_rank u d Int UInt) (rank_all u d Int UInt refl refl))
    (all_append (cond (leb longs 1) (types_of_rank u d Long ULong) []) (types_of_rank u d LLong ULLong) (if_all (leb longs 1) (types_of_rank u d Long ULong) (rank_all u d Long ULong refl refl)) (rank_all u d LLong ULLong refl refl))

typed_passes : (w : List ℕ) (s : Option Suffix) (k : IntKind) → type_with w s ≡ Some k → (is_constant_kind k ≡ true) × (is_in_range k (pos (value_of w)) ≡ true)
typed_passes w None k e = absurd cc
typed_passes w (Some s) k e = fit_passes (value_of w) (types_for s.is_unsigned (eqb (base_of w) 10) s.longs) k (types_all s.is_unsigned (eqb (base_of w) 10) s.longs) e

in_range : (k : IntKind) (n : ℕ) → n ≤ top k → IsInRange k (pos n)
in_range kind.Bool n h = (omega (arith, ints), omega (arith, ints))
in_range kind.Char n h = (omega (arith, ints), omega (arith, ints))
in_range kind.SChar n h = (omega (arith, ints), omega (arith, ints))
in_range kind.UChar n h = (omega (arith, ints), omega (arith, ints))
in_range kind.Short n h = (omega (arith, ints), omega (arith, ints))
in_range kind.UShort n h = (omega (arith, ints), omega (arith, ints))
in_range kind.Int n h = (omega (arith, ints), omega (arith, ints))
in_range kind.UInt n h = (omega (arith, ints), omega (arith, ints))
in_range kind.Long n h = (omega (arith, ints), omega (arith, ints))
in_range kind.ULong n h = (omega (arith, ints), omega (arith, ints))
in_range kind.LLong n h = (omega (arith, ints), omega (arith, ints))
in_range kind.ULLong n h = (omega (arith, ints), omega (arith, ints))

no_less : (n : ℕ) → pos 0 ≤ℤ pos n
no_less n = omega (arith, ints)

integer_given : (w : List ℕ) (o : Option IntKind) (k : IntKind) → o ≡ Some k → (is_constant_kind k ≡ true) × (is_in_range k (pos (value_of w)) ≡ true) → CanBeGiven (token_kind.Integer (pos (value_of w)) (unwrap_or o Int))
integer_given w o k e p =
    let fits : leb (value_of w) (top k) ≡ true = fits_top k (value_of w) ∙ p.1 in
    rw e (p.0, no_less (value_of w), in_range k (value_of w) (leb-true _ _ fits))

-- ---- Characters

char_given : (v : ℕ) → IsInRange Char (as_char v)
char_given v =
    elim (cases_Bool (ltb v 128)) [
      | inl l ↦ let h : v < 128 = ltb-true _ _ l in rw l (omega (arith, ints), omega (arith, ints))
      | inr l ↦ let h : 128 ≤ v = omega (arith, ltb-false _ _ l) in rw l (omega (arith, ints), omega (arith, ints))
    ]

-- ---- All kinds

named_given : (w : List ℕ) (o : Option Keyword) → lookup keywords w ≡ o → is_name w ≡ true → CanBeGiven (named w o)
named_given w None e n = (n, e)
named_given w (Some k) e n = tt

word_given : (w : List ℕ) → is_name w ≡ true → CanBeGiven (word w)
unfolding word
word_given w n = named_given w (lookup keywords w) refl n

number_given : (w : List ℕ) (after : ℕ) → faults w after ≡ [] → begins_number w ≡ true → CanBeGiven (token_kind.Integer (pos (value_of w)) (unwrap_or (type_of w) Int))
unfolding number_faults
number_given w after e n =
    let k = with_none (digits_of w) (suffix_meaning (suffix_of w)) (type_of w) (number_sound w after e n) in
    integer_given w (type_of w) k.0 k.1 (typed_passes w (suffix_meaning (suffix_of w)) k.0 k.1)

meaning_given : (w : List ℕ) (after : ℕ) → is_token w ≡ true → faults w after ≡ [] → CanBeGiven (meaning w)
unfolding meaning
meaning_given w after t e =
    elim (cases_Bool (is_letter (first w))) [
      | inl l ↦ rw l (word_given w (name_of_letter w t l))
      | inr l ↦
          elim (cases_Bool (begins_number w)) [
            | inl n ↦ rw (l, n) (number_given w after e n)
            | inr n ↦
                elim (cases_Bool (eqb (first w) 39)) [
                  | inl q ↦ rw (l, n, q) (char_given _)
                  | inr q ↦ elim (cases_Bool (eqb (first w) 34)) [ inl s ↦ rw (l, n, q, s) tt | inr s ↦ rw (l, n, q, s) tt ]
                ]
          ]
    ]

given : (starts : Bool) (ps : List Piece) (text : List ℕ) (s : Spot) (t : Token) → Cuts starts ps text [] → Contains (tokens_from s ps) t → CanBeGiven t.kind
given starts [] text s t c h = absurd (contains_none t h)
given starts (white w ∷ ps) text s t (z, is, right, c) h = given (starts_after starts w) ps z (spot_behind s w) t c h
given starts (comment w ∷ ps) text s t (z, is, right, c) h = given (starts_after starts w) ps z (spot_behind s w) t c h
given starts (line w ∷ ps) text s t (z, is, right, c) h = given (starts_after starts w) ps z (spot_behind s w) t c h
given starts (token w k ∷ ps) text s t (z, is, right, c) h =
    elim (contained_cases (record { kind = k; spot = s }) t (tokens_from (spot_behind s w) ps) h) [
      | inl same ↦
          let k_is : k ≡ t.kind = ap (λ (u : Token). u.kind) same in
          subst (λ j. CanBeGiven j) (sym right.3 ∙ k_is) (meaning_given w (first z) right.0.passes_itself right.2)
      | inr later ↦ given (starts_after starts w) ps z (spot_behind s w) t c later
    ]

pub token_given : (bytes : List ℕ) (tokens : List Token) → Cut bytes tokens → (t : Token) → Contains tokens t → CanBeGiven t.kind
token_given bytes tokens c t h = given true c.pieces bytes start t c.cuts (subst (λ ts. Contains ts t) c.tokens_are h)
