-- The faults of a token, in their order.
use Rattle.std.proofs.Common.{◌≡◌, ℕ, zero, suc, ◌+◌, ◌-◌, ◌≤◌, ◌<◌, ◌^◌, true, ◌&&◌, eqb, leb, List, [], ◌∷◌, length, Contains, Option, Some, None, refl, sym, ap, subst, arith, ◌⊎◌, inl, inr}
use Rattle.std.proofs.lemmas.Bool.{cases_Bool, leb-false, leb-true}
use Rattle.cc_arith.specs.declared.kind.IntKind.{IntKind}
use Rattle.cc_lex.specs.declared.number.Suffix.{Suffix}
use Rattle.cc_lex.specs.Bytes.{first, is_quote}
use Rattle.cc_lex.specs.Spellings.{begins_number, is_digraph}
use Rattle.cc_lex.specs.Numbers.{digits_of, suffix_of, suffix_meaning, value_of, types_for, base_of, type_with, type_of, faults_with, number_faults}
use Rattle.cc_lex.specs.Characters.{inner, character_len, character_value, characters, characters_of, escape_faults, string_faults, character_faults}
use Rattle.cc_lex.specs.Meanings.{is_prefix, faults}
use Rattle.cc_lex.specs.Faults.{NotAfter}
use Rattle.cc_lex.specs.Reading.{IsSound}
use Rattle.cc_lex.proofs.TypeLemmas.{none_fit}

pub contained_cases : {X : Type 0} (g x : X) (gs : List X) → Contains (g ∷ gs) x → (g ≡ x) ⊎ Contains gs x
contained_cases g x gs (zero, h, e) = inl e
contained_cases g x gs (suc k, h, e) = inr (k, omega arith, e)

pub contains_none : {X : Type 0} (x : X) → Contains {X = X} [] x → ⊥
contains_none x (k, h, e) = absurd (omega arith)

same_place : (g x : ℕ × ℕ) → g ≡ x → NotAfter g x
same_place g x e = inr (ap (λ (y : ℕ × ℕ). y.0) e, omega (arith, ap (λ (y : ℕ × ℕ). y.1) e))

alone : (f g : ℕ × ℕ) (gs : List (ℕ × ℕ)) (x : ℕ × ℕ) → f ∷ [] ≡ g ∷ gs → Contains (g ∷ gs) x → NotAfter g x
alone f g gs x e c =
    let t : [] ≡ gs = cc in
    elim (contained_cases g x gs c) [
      | inl same ↦ same_place g x same
      | inr later ↦ absurd (contains_none x (subst (λ (l : List (ℕ × ℕ)). Contains l x) (sym t) later))
    ]

-- ---- Escapes

-- each fault has its place from here on
abbrev AllFrom : ℕ → List (ℕ × ℕ) → Type 0
AllFrom at fs = (x : ℕ × ℕ) → Contains fs x → at ≤ x.0

-- the first fault is before all others
abbrev IsAscending : List (ℕ × ℕ) → Type 0
IsAscending fs = (g : ℕ × ℕ) (gs : List (ℕ × ℕ)) (x : ℕ × ℕ) → fs ≡ g ∷ gs → Contains (g ∷ gs) x → NotAfter g x

from_cons : (at : ℕ) (v : Option ℕ) (cs : List (ℕ × Option ℕ)) → AllFrom (at + 1) (escape_faults cs) → AllFrom at (escape_faults ((at, v) ∷ cs))
from_cons at None cs h x c = elim (contained_cases (at, 4) x (escape_faults cs) c) [ inl is ↦ omega (arith, ap (λ (y : ℕ × ℕ). y.0) is) | inr later ↦ omega (arith, h x later) ]
from_cons at (Some v) cs h x c = omega (arith, h x c)

escapes_from : (at left : ℕ) (z : List ℕ) → AllFrom at (escape_faults (characters at left z))
escapes_from at left [] x c = absurd (contains_none x c)
escapes_from at (suc left) (b ∷ z) x c = omega (arith, escapes_from (at + 1) left z x c)
escapes_from at zero (b ∷ z) x c =
    from_cons at (character_value (b ∷ z)) (characters (at + 1) (character_len (b ∷ z) - 1) z) (escapes_from (at + 1) (character_len (b ∷ z) - 1) z) x c

-- a fault before all others, and then those
first_of_all : (at rule : ℕ) (fs : List (ℕ × ℕ)) → AllFrom (at + 1) fs → IsAscending ((at, rule) ∷ fs)
first_of_all at rule fs h g gs x e c =
    let is : (at, rule) ≡ g = cc in
    let place : at ≡ g.0 = ap (λ (y : ℕ × ℕ). y.0) is in
    let t : fs ≡ gs = cc in
    elim (contained_cases g x gs c) [
      | inl same ↦ same_place g x same
      | inr later ↦ inl (omega (arith, h x (subst (λ (l : List (ℕ × ℕ)). Contains l x) (sym t) later)))
    ]

ascending_cons : (at : ℕ) (v : Option ℕ) (cs : List (ℕ × Option ℕ)) → AllFrom (at + 1) (escape_faults cs) → IsAscending (escape_faults cs) → IsAscending (escape_faults ((at, v) ∷ cs))
ascending_cons at None cs h a = first_of_all at 4 (escape_faults cs) h
ascending_cons at (Some v) cs h a = a

escapes_ascending : (at left : ℕ) (z : List ℕ) → IsAscending (escape_faults (characters at left z))
escapes_ascending at left [] g gs x e c = absurd cc
escapes_ascending at (suc left) (b ∷ z) g gs x e c = escapes_ascending (at + 1) left z g gs x e c
escapes_ascending at zero (b ∷ z) g gs x e c =
    ascending_cons at (character_value (b ∷ z)) (characters (at + 1) (character_len (b ∷ z) - 1) z) (escapes_from (at + 1) (character_len (b ∷ z) - 1) z)
    (escapes_ascending (at + 1) (character_len (b ∷ z) - 1) z) g gs x e c

string_ascending : (w : List ℕ) → IsAscending (string_faults w)
unfolding string_faults
string_ascending w g gs x e c = escapes_ascending 1 0 (inner w) g gs x e c

character_ascending : (w : List ℕ) → IsAscending (character_faults w)
unfolding character_faults
character_ascending w g gs x e c =
    elim (cases_Bool (eqb (length (characters_of w)) 1)) [
      | inl one ↦ escapes_ascending 1 0 (inner w) g gs x (rw one at e) c
      | inr other ↦ first_of_all 0 5 (escape_faults (characters_of w)) (λ y d. omega (arith, escapes_from 1 0 (inner w) y d)) g gs x (rw other at e) c
    ]

-- ---- Numbers

with_ascending : (digits : List ℕ) (s : Option Suffix) (k : Option IntKind) → IsAscending (faults_with digits s k)
with_ascending digits None k g gs x e c = alone (0, 6) g gs x e c
with_ascending [] (Some s) k g gs x e c = alone (0, 6) g gs x e c
with_ascending (b ∷ z) (Some s) None g gs x e c = alone (0, 7) g gs x e c
with_ascending (b ∷ z) (Some s) (Some k) g gs x e c = absurd cc

number_ascending : (w : List ℕ) → IsAscending (number_faults w)
unfolding number_faults
number_ascending w g gs x e c = with_ascending (digits_of w) (suffix_meaning (suffix_of w)) (type_of w) g gs x e c

pub with_none : (digits : List ℕ) (s : Option Suffix) (k : Option IntKind) → faults_with digits s k ≡ [] → (j : IntKind) × (k ≡ Some j)
with_none digits None k e = absurd cc
with_none [] (Some s) k e = absurd cc
with_none (b ∷ z) (Some s) None e = absurd cc
with_none (b ∷ z) (Some s) (Some k) e = (k, refl)

typed_small : (w : List ℕ) (s : Option Suffix) (k : IntKind) → type_with w s ≡ Some k → value_of w < 2 ^ 64
typed_small w None k e = absurd cc
typed_small w (Some s) k e =
    elim (cases_Bool (leb (2 ^ 64) (value_of w))) [
      | inl l ↦ absurd (let none : type_with w (Some s) ≡ None = none_fit (value_of w) (types_for s.is_unsigned (eqb (base_of w) 10) s.longs) (leb-true _ _ l) in cc)
      | inr l ↦ omega (arith, leb-false _ _ l)
    ]

pub number_sound : (w : List ℕ) (after : ℕ) → faults w after ≡ [] → begins_number w ≡ true → number_faults w ≡ []
unfolding faults
number_sound w after e n = elim (cases_Bool (is_prefix w && is_quote after)) [ inl o ↦ absurd (let none_is : (0, 9) ∷ [] ≡ [] = rw o at e in cc) | inr o ↦ rw (o, n) at e ]

-- the value of a number without faults
pub number_small : (w : List ℕ) → IsSound w → begins_number w ≡ true → value_of w < 2 ^ 64
unfolding number_faults
number_small w (t, (after, e)) n =
    let k = with_none (digits_of w) (suffix_meaning (suffix_of w)) (type_of w) (number_sound w after e n) in
    typed_small w (suffix_meaning (suffix_of w)) k.0 k.1

-- ---- All

pub faults_ascending : (w : List ℕ) (after : ℕ) → IsAscending (faults w after)
unfolding faults
faults_ascending w after g gs x e c =
    elim (cases_Bool (is_prefix w && is_quote after)) [
      | inl o ↦ alone (0, 9) g gs x (rw o at e) c
      | inr o ↦
          elim (cases_Bool (begins_number w)) [
            | inl n ↦ number_ascending w g gs x (rw (o, n) at e) c
            | inr n ↦
                elim (cases_Bool (eqb (first w) 39)) [
                  | inl q ↦ character_ascending w g gs x (rw (o, n, q) at e) c
                  | inr q ↦
                      elim (cases_Bool (eqb (first w) 34)) [
                        | inl s ↦ string_ascending w g gs x (rw (o, n, q, s) at e) c
                        | inr s ↦
                            elim (cases_Bool (is_digraph w)) [
                              | inl d ↦ alone (0, 9) g gs x (rw (o, n, q, s, d) at e) c
                              | inr d ↦ absurd (let none_is : [] ≡ g ∷ gs = rw (o, n, q, s, d) at e in cc)
                            ]
                      ]
                ]
          ]
    ]
