-- The least of offences is the first of them.
use Rattle.std.proofs.Common.{◌≡◌, refl, sym, subst, List, [], ◌∷◌, length, ℕ, zero, suc, ◌<◌, nat_lt, nat_eq, Bool, true, false, if◌then◌else◌, ◌⊎◌, inl, inr, ◌∙◌, arith}
use Rattle.std.proofs.lemmas.Bool.{ltb-true, lt-ltb, eqb-true, eq-eqb}
use Rattle.std.specs.Prelude.{Option, Some, None, All, Contains, slice_index_or}
use Rattle.std.proofs.lemmas.List.Elements.{All-nil, All-cons, All-tail}
use Rattle.cc_symbols.specs.declared.offence.Offence.{Offence}
use Rattle.cc_symbols.specs.Offences.{is_before, lesser}
use Rattle.cc_typing_laws.specs.Findings.{least_of}
use Rattle.cc_typing_laws.specs.Laws.{IsFirst}

-- the one that comes first
abbrev chosen : Offence → Offence → Offence
chosen o p = if is_before p o then p else o

abbrev least_from : Offence → List Offence → Offence
least_from o [] = o
least_from o (p ∷ ps) = least_from (chosen o p) ps

least_some : (o : Offence) (ps : List Offence) → least_of (Some o) ps ≡ Some (least_from o ps)
least_some o [] = refl
least_some o (p ∷ ps) = least_some (chosen o p) ps

-- ---- The order

contra : {A : Type 0} → false ≡ true → A
contra e = cc

itself : (o : Offence) → is_before o o ≡ false
itself o = grind arith

-- one comes before the other in the order of numbers, or they are alike and a test says so
abbrev Lesser : ℕ → ℕ → Type 0 → Type 0
Lesser x y P = (x < y) ⊎ ((x ≡ y) × P)

lesser_says : (x y : ℕ) (r : Bool) → (if nat_eq x y then r else nat_lt x y) ≡ true → Lesser x y (r ≡ true)
lesser_says x y r = by (nat_eq x y) refl
  where
    by : (b : Bool) → nat_eq x y ≡ b → (if b then r else nat_lt x y) ≡ true → Lesser x y (r ≡ true)
    by true e h = inr (eqb-true x y e, h)
    by false e h = inl (ltb-true x y h)

lesser_tells : (x y : ℕ) (r : Bool) → Lesser x y (r ≡ true) → (if nat_eq x y then r else nat_lt x y) ≡ true
lesser_tells x y r h = by (nat_eq x y) refl h
  where
    by : (b : Bool) → nat_eq x y ≡ b → Lesser x y (r ≡ true) → (if b then r else nat_lt x y) ≡ true
    by true e (inl l) = absurd (omega (arith, l, eqb-true x y e))
    by true e (inr h) = h.1
    by false e (inl l) = lt-ltb x y l
    by false e (inr h) = contra (sym e ∙ eq-eqb x y h.0)

-- a comes before b
abbrev Before : Offence → Offence → Type 0
Before a b = Lesser a.spot.line b.spot.line (Lesser a.spot.column b.spot.column (nat_lt a.rule b.rule ≡ true))

says_columns : (a b : Offence) → Lesser a.spot.line b.spot.line ((if nat_eq a.spot.column b.spot.column then nat_lt a.rule b.rule else nat_lt a.spot.column b.spot.column) ≡ true) → Before a b
says_columns a b (inl l) = inl l
says_columns a b (inr h) = inr (h.0, lesser_says a.spot.column b.spot.column (nat_lt a.rule b.rule) h.1)

says : (a b : Offence) → is_before a b ≡ true → Before a b
says a b h = says_columns a b (lesser_says a.spot.line b.spot.line _ h)

tells_columns : (a b : Offence) → Before a b → Lesser a.spot.line b.spot.line ((if nat_eq a.spot.column b.spot.column then nat_lt a.rule b.rule else nat_lt a.spot.column b.spot.column) ≡ true)
tells_columns a b (inl l) = inl l
tells_columns a b (inr h) = inr (h.0, lesser_tells a.spot.column b.spot.column (nat_lt a.rule b.rule) h.1)

tells : (a b : Offence) → Before a b → is_before a b ≡ true
tells a b h = lesser_tells a.spot.line b.spot.line _ (tells_columns a b h)

onward : (x y z : ℕ) (P Q R : Type 0) → (P → Q → R) → Lesser x y P → Lesser y z Q → Lesser x z R
onward x y z P Q R f (inl l) (inl m) = inl (omega (arith, l, m))
onward x y z P Q R f (inl l) (inr h) = inl (omega (arith, l, h.0))
onward x y z P Q R f (inr h) (inl m) = inl (omega (arith, h.0, m))
onward x y z P Q R f (inr h) (inr k) = inr (h.0 ∙ k.0, f h.1 k.1)

rules_onward : (x y z : ℕ) → nat_lt x y ≡ true → nat_lt y z ≡ true → nat_lt x z ≡ true
rules_onward x y z h k = lt-ltb x z (omega (arith, ltb-true x y h, ltb-true y z k))

before_onward : (a b c : Offence) → Before a b → Before b c → Before a c
before_onward a b c = onward _ _ _ _ _ _ (onward _ _ _ _ _ _ (rules_onward a.rule b.rule c.rule))

stays : (q o p : Offence) → is_before q o ≡ false → is_before p o ≡ true → is_before q p ≡ false
stays q o p h e = by (is_before q p) refl
  where
    by : (b : Bool) → is_before q p ≡ b → b ≡ false
    by true w = contra (sym h ∙ tells q o (before_onward q p o (says q p w) (says p o e)))
    by false w = refl

step_by : (q o p : Offence) (b : Bool) → is_before p o ≡ b → is_before q o ≡ false → is_before q (if b then p else o) ≡ false
step_by q o p true e h = stays q o p h e
step_by q o p false e h = h

later_by : (o p : Offence) (b : Bool) → is_before p o ≡ b → is_before p (if b then p else o) ≡ false
later_by o p true e = itself p
later_by o p false e = e

-- ---- None comes before it

abbrev NotBefore : Offence → Offence → Type 0
NotBefore r p = is_before p r ≡ false

below : (q o : Offence) (ps : List Offence) → is_before q o ≡ false → is_before q (least_from o ps) ≡ false
below q o [] h = h
below q o (p ∷ ps) h = below q (chosen o p) ps (step_by q o p (is_before p o) refl h)

none_before : (o : Offence) (ps : List Offence) → All (NotBefore (least_from o ps)) (o ∷ ps)
none_before o [] = All-cons (NotBefore o) o [] (itself o) (All-nil (NotBefore o))
none_before o (p ∷ ps) =
    let r = least_from (chosen o p) ps in
    All-cons (NotBefore r) o (p ∷ ps) (below o (chosen o p) ps (step_by o o p (is_before p o) refl (itself o)))
    (All-cons (NotBefore r) p ps (below p (chosen o p) ps (later_by o p (is_before p o) refl))
    (All-tail (NotBefore r) (chosen o p) ps (none_before (chosen o p) ps)))

-- ---- It is one of them

abbrev IsIn : List Offence → Offence → Type 0
IsIn [] r = ⊥
IsIn (p ∷ ps) r = (p ≡ r) ⊎ IsIn ps r

in_by : (o p : Offence) (ps : List Offence) (r : Offence) (b : Bool) → IsIn ((if b then p else o) ∷ ps) r → IsIn (o ∷ p ∷ ps) r
in_by o p ps r true (inl e) = inr (inl e)
in_by o p ps r true (inr h) = inr (inr h)
in_by o p ps r false (inl e) = inl e
in_by o p ps r false (inr h) = inr (inr h)

least_in : (o : Offence) (ps : List Offence) → IsIn (o ∷ ps) (least_from o ps)
least_in o [] = inl refl
least_in o (p ∷ ps) = in_by o p ps (least_from (chosen o p) ps) (is_before p o) (least_in (chosen o p) ps)

in_contains : (ps : List Offence) (r : Offence) → IsIn ps r → Contains ps r
in_contains [] r h = elim h [ ]
in_contains (p ∷ ps) r (inl e) = (0, omega arith, e)
in_contains (p ∷ ps) r (inr h) = let c = in_contains ps r h in (suc c.0, omega (arith, c.1), c.2)

pub first : (ps : List Offence) → IsFirst ps (least_of None ps)
first [] = refl
first (o ∷ ps) = subst (IsFirst (o ∷ ps)) (sym (least_some o ps)) (in_contains (o ∷ ps) (least_from o ps) (least_in o ps), none_before o ps)
