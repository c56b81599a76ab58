-- Types in the table of their shapes, and what one shape more changes.
use Rattle.std.proofs.Common.{◌≡◌, refl, ap, sym, ◌∙◌, subst, ℕ, zero, suc, ◌+◌, ◌<◌, Bool, true, false, ◌&&◌, not, List, [], ◌∷◌, ◌++◌, length, get_or, arith, length-append, ◌⊎◌, inl, inr, nat_lt as ltb}
use Rattle.std.specs.List.{list_any}
use Rattle.std.specs.Prelude.{Result, Ok, Err, IfOk, OnErr}
use Rattle.std.proofs.Math.Bool.{or-true}
use Rattle.indexmap.specs.IndexSet.{insert_key}
use Rattle.std.proofs.lemmas.Bool.{ltb-true, ltb-false, lt-ltb}
use Rattle.std.proofs.lemmas.List.{get_or_append_left}
use Rattle.std.proofs.Math.Seq.{get_or-append_seam}
use Rattle.cc_types.specs.CTypes.{CTypeTree, void, pointer_to, array_of, returning, taking, has_const, is_function}
use Rattle.cc_types.specs.declared.shape.Shape.{Shape}
use Rattle.cc_types.specs.declared.shape.Shape.TheVariants as s
use Rattle.cc_types.specs.declared.shape.TypeId.{TypeId}
use Rattle.cc_types.specs.Shapes.{type_number, type_at, built, is_bare, is_function_number, is_sound, IsSound, types_from, types_of, are_sound, IsEachOnce, IsTable, Extends}
use Rattle.cc_types.specs.Interning.{numbered}

-- ---- More types

pub stays_all : (ts : List CTypeTree) → Extends ts ts
stays_all ts = record { longer = omega arith; same = λ i h. refl }

pub one_more : (ts : List CTypeTree) (t : CTypeTree) → Extends ts (ts ++ t ∷ [])
one_more ts t = record { longer = omega (arith, length-append ts (t ∷ [])); same = λ i h. get_or_append_left ts (t ∷ []) (void false) i h }

pub extends_on : (ts us vs : List CTypeTree) → Extends ts us → Extends us vs → Extends ts vs
extends_on ts us vs p q = record { longer = omega (arith, p.longer, q.longer); same = λ i h. q.same i (omega (arith, p.longer, h)) ∙ p.same i h }

pub extends_from : (ts : List CTypeTree) (ss : List Shape) → Extends ts (types_from ts ss)
extends_from ts [] = stays_all ts
extends_from ts (a ∷ ss) = extends_on ts (ts ++ built ts a ∷ []) (types_from (ts ++ built ts a ∷ []) ss) (one_more ts (built ts a)) (extends_from (ts ++ built ts a ∷ []) ss)

pub length_from : (ts : List CTypeTree) (ss : List Shape) → length (types_from ts ss) ≡ length ts + length ss
length_from ts [] = omega arith
length_from ts (a ∷ ss) = omega (arith, length_from (ts ++ built ts a ∷ []) ss, length-append ts (built ts a ∷ []))

pub both : (a b : Bool) → (a && b) ≡ true → (a ≡ true) × (b ≡ true)
both true b e = (refl, e)
both false b e = cc

pub and_both : (a b : Bool) → a ≡ true → b ≡ true → (a && b) ≡ true
and_both a b p q = rw (p, q) refl

pub bare_parts : (ts : List CTypeTree) (t : TypeId) → is_bare ts t ≡ true → (ltb t.0 (length ts) ≡ true) × (not (has_const (type_at ts t)) ≡ true)
bare_parts ts t h = both (ltb t.0 (length ts)) (not (has_const (type_at ts t))) h

pub function_parts : (ts : List CTypeTree) (f : TypeId) → is_function_number ts f ≡ true → (ltb f.0 (length ts) ≡ true) × (is_function (type_at ts f) ≡ true)
function_parts ts f h = both (ltb f.0 (length ts)) (is_function (type_at ts f)) h

pub takes_parts : (ts : List CTypeTree) (t f : TypeId) → IsSound ts (s.Takes t f) → (is_bare ts t ≡ true) × (is_function_number ts f ≡ true)
takes_parts ts t f h = both (is_bare ts t) (is_function_number ts f) h

module _ (ts us : List CTypeTree) (e : Extends ts us) where
  stays_at : (t : TypeId) → ltb t.0 (length ts) ≡ true → type_at us t ≡ type_at ts t
  stays_at t h = e.same t.0 (ltb-true _ _ h)

  pub built_stays : (a : Shape) → IsSound ts a → built us a ≡ built ts a
  built_stays (s.Void k) h = refl
  built_stays (s.Integer k kind) h = refl
  built_stays (s.Pointer k t) h = ap (pointer_to k) (stays_at t h)
  built_stays (s.Array k t n) h = ap (λ x. array_of k x n) (stays_at t (bare_parts ts t h).0)
  built_stays (s.Function t) h = ap returning (stays_at t (bare_parts ts t h).0)
  built_stays (s.Takes t f) h =
      let p = takes_parts ts t f h in
      ap (λ x. taking x (type_at us f)) (stays_at t (bare_parts ts t p.0).0) ∙ ap (taking (type_at ts t)) (stays_at f (function_parts ts f p.1).0)
  built_stays (s.Struct k id) h = refl

  there_stays : (t : TypeId) → ltb t.0 (length ts) ≡ true → ltb t.0 (length us) ≡ true
  there_stays t h = lt-ltb _ _ (omega (arith, e.longer, ltb-true _ _ h))

  bare_stays : (t : TypeId) → is_bare ts t ≡ true → is_bare us t ≡ true
  bare_stays t h =
      let p = bare_parts ts t h in
      and_both _ _ (there_stays t p.0) (ap (λ x. not (has_const x)) (stays_at t p.0) ∙ p.1)

  pub function_stays : (f : TypeId) → is_function_number ts f ≡ true → is_function_number us f ≡ true
  function_stays f h =
      let p = function_parts ts f h in
      and_both _ _ (there_stays f p.0) (ap is_function (stays_at f p.0) ∙ p.1)

  pub sound_stays : (a : Shape) → IsSound ts a → IsSound us a
  sound_stays (s.Void k) h = refl
  sound_stays (s.Integer k kind) h = refl
  sound_stays (s.Pointer k t) h = there_stays t h
  sound_stays (s.Array k t n) h = bare_stays t h
  sound_stays (s.Function t) h = bare_stays t h
  sound_stays (s.Takes t f) h =
      let p = takes_parts ts t f h in
      and_both _ _ (bare_stays t p.0) (function_stays f p.1)
  sound_stays (s.Struct k id) h = refl

-- ---- One shape more

pub types_append : (ts : List CTypeTree) (ss : List Shape) (a : Shape) → types_from ts (ss ++ a ∷ []) ≡ types_from ts ss ++ built (types_from ts ss) a ∷ []
types_append ts [] a = refl
types_append ts (b ∷ ss) a = types_append (ts ++ built ts b ∷ []) ss a

pub sound_append : (ts : List CTypeTree) (ss : List Shape) (a : Shape) → are_sound ts ss ≡ true → is_sound (types_from ts ss) a ≡ true → are_sound ts (ss ++ a ∷ []) ≡ true
sound_append ts [] a h k = and_both _ _ k refl
sound_append ts (b ∷ ss) a h k = let p = both _ _ h in and_both _ _ p.0 (sound_append (ts ++ built ts b ∷ []) ss a p.1 k)

-- ---- The type of each shape

type_of_shape : (ts : List CTypeTree) (ss : List Shape) (d : Shape) → are_sound ts ss ≡ true → (i : ℕ) → i < length ss
    → (type_number (types_from ts ss) (length ts + i) ≡ built (types_from ts ss) (get_or ss i d)) × (is_sound (types_from ts ss) (get_or ss i d) ≡ true)
type_of_shape ts [] d h i less = absurd (omega arith)
type_of_shape ts (a ∷ ss) d h zero less =
    let more = ts ++ built ts a ∷ [] in
    let p = both (is_sound ts a) (are_sound more ss) h in
    let e = extends_from more ss in
    let all = extends_on ts more (types_from more ss) (one_more ts (built ts a)) e in
    let at : type_number (types_from more ss) (length ts) ≡ built ts a = e.same (length ts) (omega (arith, length-append ts (built ts a ∷ []))) ∙ get_or-append_seam ts (built ts a) [] (void false) in
    let there : length ts + 0 ≡ length ts = omega arith in
    (ap (type_number (types_from more ss)) there ∙ at ∙ sym (built_stays ts (types_from more ss) all a p.0), sound_stays ts (types_from more ss) all a p.0)
type_of_shape ts (a ∷ ss) d h (suc i) less =
    let more = ts ++ built ts a ∷ [] in
    let p = both (is_sound ts a) (are_sound more ss) h in
    let again = type_of_shape more ss d p.1 i (omega arith) in
    let there : length ts + suc i ≡ length more + i = omega (arith, length-append ts (built ts a ∷ [])) in
    (ap (type_number (types_from more ss)) there ∙ again.0, again.1)

pub shape_at : (ss : List Shape) (d : Shape) → are_sound [] ss ≡ true → (i : ℕ) → i < length (types_of ss)
    → (built (types_of ss) (get_or ss i d) ≡ type_number (types_of ss) i) × (is_sound (types_of ss) (get_or ss i d) ≡ true)
shape_at ss d h i less =
    let p = type_of_shape [] ss d h i (omega (arith, length_from [] ss, less)) in
    let there : 0 + i ≡ i = omega arith in
    (sym p.0 ∙ ap (type_number (types_of ss)) there, p.1)

-- ---- Each type once

below_or_last : (i n : ℕ) → i < n + 1 → (i < n) ⊎ (i ≡ n)
below_or_last i n h = by (ltb i n) refl
  where
    by : (b : Bool) → ltb i n ≡ b → (i < n) ⊎ (i ≡ n)
    by true e = inl (ltb-true i n e)
    by false e = inr (omega (arith, ltb-false i n e))

module _ (ts : List CTypeTree) (t : CTypeTree) where
  at_last : (i : ℕ) → i ≡ length ts → type_number (ts ++ t ∷ []) i ≡ t
  at_last i e = ap (type_number (ts ++ t ∷ [])) e ∙ get_or-append_seam ts t [] (void false)

  before_last : (i : ℕ) → i < length ts → type_number (ts ++ t ∷ []) i ≡ type_number ts i
  before_last i h = get_or_append_left ts (t ∷ []) (void false) i h

  once_by : IsEachOnce ts → ((i : ℕ) → i < length ts → type_number ts i ≡ t → ⊥) → (i j : ℕ) → type_number (ts ++ t ∷ []) i ≡ type_number (ts ++ t ∷ []) j → (i < length ts) ⊎ (i ≡ length ts) → (j < length ts) ⊎ (j ≡ length ts) → i ≡ j
  once_by once fresh i j e (inl p) (inl q) = once i j p q (sym (before_last i p) ∙ e ∙ before_last j q)
  once_by once fresh i j e (inl p) (inr q) = absurd (fresh i p (sym (before_last i p) ∙ e ∙ at_last j q))
  once_by once fresh i j e (inr p) (inl q) = absurd (fresh j q (sym (before_last j q) ∙ sym e ∙ at_last i p))
  once_by once fresh i j e (inr p) (inr q) = p ∙ sym q

  pub each_once_more : IsEachOnce ts → ((i : ℕ) → i < length ts → type_number ts i ≡ t → ⊥) → IsEachOnce (ts ++ t ∷ [])
  each_once_more once fresh i j hi hj e = once_by once fresh i j e (below_or_last i (length ts) (omega (arith, hi, length-append ts (t ∷ [])))) (below_or_last j (length ts) (omega (arith, hj, length-append ts (t ∷ []))))

-- ---- Equal types have equal shapes

module _ (ts : List CTypeTree) (once : IsEachOnce ts) where
  pub id_is : (p q : TypeId) → ltb p.0 (length ts) ≡ true → ltb q.0 (length ts) ≡ true → type_at ts p ≡ type_at ts q → p ≡ q
  id_is p q hp hq e = let n : p.0 ≡ q.0 = once p.0 q.0 (ltb-true _ _ hp) (ltb-true _ _ hq) e in ap numbered n

  bare_is : (p q : TypeId) → is_bare ts p ≡ true → is_bare ts q ≡ true → type_at ts p ≡ type_at ts q → p ≡ q
  bare_is p q hp hq e = id_is p q (bare_parts ts p hp).0 (bare_parts ts q hq).0 e

  pub one_shape : (a b : Shape) → IsSound ts a → IsSound ts b → built ts a ≡ built ts b → a ≡ b
  one_shape (s.Takes t f) (s.Takes u g) ha hb e =
      let p = takes_parts ts t f ha in
      let q = takes_parts ts u g hb in
      let x : t ≡ u = bare_is t u p.0 q.0 cc in
      let y : f ≡ g = id_is f g (function_parts ts f p.1).0 (function_parts ts g q.1).0 cc in
      cc
  one_shape (s.Pointer k t) (s.Pointer j u) ha hb e = let x : t ≡ u = id_is t u ha hb cc in cc
  one_shape (s.Array k t n) (s.Array j u m) ha hb e = let x : t ≡ u = bare_is t u ha hb cc in cc
  one_shape (s.Function t) (s.Function u) ha hb e = let x : t ≡ u = bare_is t u ha hb cc in cc
  one_shape (s.Void k) (s.Void j) ha hb e = cc
  one_shape (s.Integer k m) (s.Integer j n) ha hb e = cc
  one_shape (s.Struct k t) (s.Struct j u) ha hb e = cc
  one_shape a b ha hb e = cc

-- ---- The table after an insertion

pub record Table (old new : List Shape) : Type 0 where
  pub table : IsTable new
  pub extends : Extends (types_of old) (types_of new)

stays_table : (ss : List Shape) → IsTable ss → Table ss ss
stays_table ss h = record { table = h; extends = stays_all (types_of ss) }

module _ (eq : Shape → Shape → Bool) (tells : (a b : Shape) → a ≡ b → eq a b ≡ true) where
  found : (ss : List Shape) (a d : Shape) (i : ℕ) → i < length ss → get_or ss i d ≡ a → list_any (eq a) ss ≡ true
  found [] a d i less e = absurd (omega arith)
  found (b ∷ ss) a d zero less e = rw (tells a b (sym e)) refl
  found (b ∷ ss) a d (suc i) less e = simp (found ss a d i (omega arith) e) (or-true _)

  is_fresh : (ss : List Shape) (a : Shape) → IsTable ss → IsSound (types_of ss) a → list_any (eq a) ss ≡ false
      → (i : ℕ) → i < length (types_of ss) → type_number (types_of ss) i ≡ built (types_of ss) a → ⊥
  is_fresh ss a h ha none i less e =
      let p = shape_at ss a h.sound i less in
      let same = one_shape (types_of ss) h.once (get_or ss i a) a p.1 ha (p.0 ∙ e) in
      let there = found ss a a i (omega (arith, less, length_from [] ss)) same in
      cc

  pub insert_table : (ss : List Shape) (a : Shape) → IsTable ss → IsSound (types_of ss) a → Table ss (insert_key eq ss a)
  insert_table ss a h ha = by (list_any (eq a) ss) refl
    where
      by : (b : Bool) → list_any (eq a) ss ≡ b → Table ss (insert_key eq ss a)
      by true e = rw e (stays_table ss h)
      by false e = rw e (record {
        table = record {
          sound = sound_append [] ss a h.sound ha;
          once = subst IsEachOnce (sym (types_append [] ss a)) (each_once_more (types_of ss) (built (types_of ss) a) h.once (is_fresh ss a h ha e));
        };
        extends = subst (Extends (types_of ss)) (sym (types_append [] ss a)) (one_more (types_of ss) (built (types_of ss) a));
      })

  -- what the set holds after the call that inserts, whether it succeeds or not
  pub after : {R E : Type 0} (old new : List Shape) (a : Shape) (r : Result R E) → IfOk r (λ x. new ≡ insert_key eq old a) → OnErr r (new ≡ old)
      → IsTable old → IsSound (types_of old) a → Table old new
  after old new a (Ok x) ok err h ha = subst (Table old) (sym ok) (insert_table old a h ha)
  after old new a (Err x) ok err h ha = subst (Table old) (sym err) (stays_table old h)
