-- The answer, from what was read and the first place that is faulty everywhere.
use Rattle.std.proofs.Common.{◌≡◌, ℕ, ◌≤◌, ◌<◌, ◌+◌, true, false, ◌||◌, ◌&&◌, eqb, ltb, leb, List, drop, Some, None, Result, Ok, Err, sym, subst, arith, inl, inr}
use Rattle.std.proofs.lemmas.Bool.{cases_Bool, ltb-false, ltb-true, or_cases}
use Rattle.std.proofs.lemmas.Bool.Decides.{nat_tests}
use Rattle.std.specs.Result.{IfErr}
use Rattle.cc_lex.specs.declared.token.Token.{Token}
use Rattle.cc_lex.specs.declared.token.LexFault.{LexFault}
use Rattle.cc_lex.specs.declared.token.LexFault.TheVariants as fault
use Rattle.cc_lex.specs.Faults.{everywhere, IsClean, NotAfter, IsLeastFault}
use Rattle.cc_lex.specs.Cut.{Cut, IsRefused}
use Rattle.cc_lex.specs.Reading.{IsAll, HasStopped, IsFirstAnywhere, sooner}
use Rattle.cc_lex.proofs.Whole.{cut_sound, stopped_is, anywhere_is, BeforeAll}

pub all_cut : (bytes : List ℕ) (ts : List Token) → IsClean bytes → IsAll bytes ts → Cut bytes ts
all_cut bytes ts n a = record { faultless = cut_sound bytes a.pieces a.cuts n; pieces = a.pieces; cuts = a.cuts; tokens_are = a.tokens_is }

pub stopped_refused : (bytes : List ℕ) (e : LexFault) → IsClean bytes → HasStopped bytes e → IsRefused bytes e
stopped_refused bytes (fault.At offset rule) n s = stopped_is bytes (offset, rule) s (λ o r h x. absurd (n o r h x))
stopped_refused bytes fault.Memory n s = tt

some_is : (a b : ℕ) → Some a ≡ Some b → a ≡ b
some_is a b e = cc

-- of two rules at one place, which are one
pub first_before : (bytes : List ℕ) (g : ℕ × ℕ) → IsFirstAnywhere bytes g → BeforeAll bytes g
first_before bytes g f o rule h e =
    elim (cases_Bool (ltb g.0 o)) [
      | inl l ↦ inl (ltb-true _ _ l)
      | inr l ↦
          let le : g.0 ≤ o = f.first_there o rule h e in
          let same : o ≡ g.0 = omega (arith, ltb-false _ _ l) in
          let there : everywhere (drop g.0 bytes) ≡ Some rule = subst (λ k. everywhere (drop k bytes) ≡ Some rule) same e in
          let one : g.1 ≡ rule = some_is g.1 rule (let t = f.there in cc) in
          inr (sym same, omega arith)
    ]

pub all_unclean : (bytes : List ℕ) (g : ℕ × ℕ) (ts : List Token) → IsFirstAnywhere bytes g → IsAll bytes ts → IsLeastFault bytes g
all_unclean bytes g ts f a = anywhere_is bytes g f.within f.there (first_before bytes g f) (inl (a.pieces, a.cuts))

is_sooner : (at first offset rule : ℕ) → (ltb at offset || (eqb at offset && leb first rule)) ≡ true → NotAfter (at, first) (offset, rule)
is_sooner at first offset rule e =
    elim (or_cases (ltb at offset) (eqb at offset && leb first rule) e) [
      | inl l ↦ inl (ltb-true _ _ l)
      | inr l ↦ inr (grind (arith, nat_tests), grind (arith, nat_tests))
    ]

no_sooner : (at first offset rule o r : ℕ) → NotAfter (at, first) (o, r) → (ltb at offset || (eqb at offset && leb first rule)) ≡ false → NotAfter (offset, rule) (o, r)
no_sooner at first offset rule o r (inl h) e = inl (later at first offset rule o h e)
  where
    later : (at first offset rule o : ℕ) → at < o → (ltb at offset || (eqb at offset && leb first rule)) ≡ false → offset < o
    later at first offset rule o h e = grind (arith, nat_tests)
no_sooner at first offset rule o r (inr h) e =
    elim (cases_Bool (ltb offset o)) [
      | inl l ↦ inl (ltb-true _ _ l)
      | inr l ↦ inr (there at first offset rule o h.0 l e, less at first offset rule o r h.0 h.1 l e)
    ]
  where
    there : (at first offset rule o : ℕ) → at ≡ o → ltb offset o ≡ false → (ltb at offset || (eqb at offset && leb first rule)) ≡ false → offset ≡ o
    there at first offset rule o a l e = grind (arith, nat_tests)

    less : (at first offset rule o r : ℕ) → at ≡ o → first ≤ r → ltb offset o ≡ false → (ltb at offset || (eqb at offset && leb first rule)) ≡ false → rule ≤ r
    less at first offset rule o r a f l e = grind (arith, nat_tests)

pub settled : (bytes : List ℕ) (g : ℕ × ℕ) (e : LexFault) → IsFirstAnywhere bytes g → HasStopped bytes e → IsRefused bytes (sooner g e)
settled bytes g fault.Memory f s = tt
settled bytes g (fault.At offset rule) f s =
    elim (cases_Bool (ltb g.0 offset || (eqb g.0 offset && leb g.1 rule))) [
      | inl y ↦ rw y (anywhere_is bytes g f.within f.there (first_before bytes g f) (inr ((offset, rule), s, is_sooner g.0 g.1 offset rule y)))
      | inr n ↦ rw n (stopped_is bytes (offset, rule) s (λ o r h x. no_sooner g.0 g.1 offset rule o r (first_before bytes g f o r h x) n))
    ]

-- nothing is faulty everywhere below this place, and at it neither
pub one_more : (bytes t : List ℕ) (at : ℕ) → t ≡ drop at bytes → None ≡ everywhere t → ((o rule : ℕ) → o < at → everywhere (drop o bytes) ≡ Some rule → ⊥) → (o rule : ℕ) → o < at + 1 → everywhere (drop o bytes) ≡ Some rule → ⊥
one_more bytes t at a b below o rule h e =
    elim (cases_Bool (ltb o at)) [
      | inl l ↦ below o rule (ltb-true _ _ l) e
      | inr l ↦
          let same : o ≡ at = omega (arith, ltb-false _ _ l) in
          let x : everywhere (drop at bytes) ≡ Some rule = subst (λ k. everywhere (drop k bytes) ≡ Some rule) same e in
          let y : None ≡ everywhere (drop at bytes) = subst (λ u. None ≡ everywhere u) a b in
          cc
    ]

pub if_err_with : {T E : Type 0} (r : Result T E) (P Q : E → Type 0) → ((e : E) → P e → Q e) → IfErr r P → IfErr r Q
if_err_with (Ok v) P Q f p = p
if_err_with (Err e) P Q f p = f e p
