-- Accesses and items that are known by their numbers.
use Rattle.std.proofs.Common.{ℕ, zero, suc, ◌≡◌, ◌+◌, ◌<◌, ◌⊎◌, inl, inr, ⊎_elim, List, [], ◌∷◌, ◌++◌, map, Option, Some, None, length, take, refl, sym, ap, ◌∙◌, subst, arith}
use Rattle.std.specs.Prelude.{Contains, ◌↔◌, slice_get}
use Rattle.std.proofs.lemmas.Option.{slice_get_within}
use Rattle.std.proofs.lemmas.List.Elements.{Contains-push, Contains-push_cases, Contains-append_left}
use Rattle.cc_flows.specs.Sweeping.{Next}
use Rattle.cc_listed.specs.declared.table.Access.{Access}
use Rattle.cc_listed.specs.Stretches.{Stretch, First, On}
use Rattle.cc_lanes.proofs.Listing.{none, take_next}
use Rattle.cc_lanes.specs.Rows.{Pair}
use Rattle.cc_listing_calls.specs.Groups.{pair}
use Rattle.cc_listing_calls.specs.Numbered.{AreNumbered, AreItems, put_item}

pub stretch_as : {next : Next} {Cut More : ℕ → Type 0} {from to : ℕ} → ((a : ℕ) → More a → Cut a) → Stretch next Cut from to → Stretch next More from to
stretch_as less (First edge) = First edge
stretch_as less (On {a = a} p never edge) = On (stretch_as less p) (λ x. never (less a x)) edge

push_cases : {X : Type 0} (xs : List X) (y : X) (i : ℕ) (x : X) → slice_get (xs ++ y ∷ []) i ≡ Some x → (slice_get xs i ≡ Some x) ⊎ ((length xs ≡ i) × (y ≡ x))
push_cases [] y zero x at = inr (refl, let e = at in cc)
push_cases [] y (suc i) x at = absurd (let e = at in cc)
push_cases (z ∷ xs) y zero x at = inl at
push_cases (z ∷ xs) y (suc i) x at = ⊎_elim inl (λ n. inr (omega (arith, n.0), n.1)) (push_cases xs y i x at)

push_old : {X : Type 0} (xs : List X) (y : X) (i : ℕ) (x : X) → slice_get xs i ≡ Some x → slice_get (xs ++ y ∷ []) i ≡ Some x
push_old [] y i x at = absurd (let e = at in cc)
push_old (z ∷ xs) y zero x at = at
push_old (z ∷ xs) y (suc i) x at = push_old xs y i x at

push_new : {X : Type 0} (xs : List X) (y : X) (i : ℕ) → length xs ≡ i → slice_get (xs ++ y ∷ []) i ≡ Some y
push_new [] y zero e = refl
push_new [] y (suc i) e = absurd (omega arith)
push_new (z ∷ xs) y zero e = absurd (omega arith)
push_new (z ∷ xs) y (suc i) e = push_new xs y i (omega arith)

taken : {X : Type 0} (xs : List X) (k : ℕ) → k < length xs → length (take k xs) ≡ k
taken xs zero lt = refl
taken [] (suc k) lt = absurd (omega arith)
taken (x ∷ xs) (suc k) lt = omega (arith, taken xs k (omega arith))

pub map_at : {X Y : Type 0} (f : X → Y) (xs : List X) (k : ℕ) (y : Y) → slice_get (map f xs) k ≡ Some y → (x : X) × (slice_get xs k ≡ Some x) × (f x ≡ y)
map_at f [] k y at = absurd (let e = at in cc)
map_at f (x ∷ xs) zero y at = (x, refl, let e = at in cc)
map_at f (x ∷ xs) (suc k) y at = map_at f xs k y at

pub at_map : {X Y : Type 0} (f : X → Y) (xs : List X) (k : ℕ) (x : X) → slice_get xs k ≡ Some x → slice_get (map f xs) k ≡ Some (f x)
at_map f [] k x at = absurd (let e = at in cc)
at_map {Y = Y} f (z ∷ xs) zero x at = ap (λ y. Some (f y)) (let h = at in let e : z ≡ x = cc in e)
at_map f (z ∷ xs) (suc k) x at = at_map f xs k x at

abbrev pub the_access : ℕ → ℕ → ℕ → Access
the_access p s o = record { point = p; slot = s; occurrence = o }

pub access_is : (p s o : ℕ) (x : Access) → p ≡ x.point → s ≡ x.slot → o ≡ x.occurrence → ◌≡◌ {A = Access} (record { point = p; slot = s; occurrence = o }) x
access_is p s o x e f g = ap (λ n. the_access n s o) e ∙ ap (λ n. the_access x.point n o) f ∙ ap (λ n. the_access x.point x.slot n) g

pub numbered_none : AreNumbered [] []
numbered_none x = (λ is. absurd (none x is), λ w. absurd (let e = w.1 in cc))

numbered_on : (xs : List Access) (y : Access) (k n : ℕ) (out : List Access) → length xs ≡ k → n ≡ k → AreNumbered xs out → AreNumbered (xs ++ y ∷ []) (out ++ the_access y.point y.slot n ∷ [])
numbered_on xs y k n out long same before x = (
  λ is. ⊎_elim
      (λ old. (let w = (before x).0 old in (w.0, push_old xs y x.occurrence w.0 w.1, w.2, w.3)))
      (λ e. (y, push_new xs y x.occurrence (long ∙ sym same ∙ ap (λ (a : Access). a.occurrence) e), ap (λ (a : Access). a.slot) e, ap (λ (a : Access). a.point) e))
      (Contains-push_cases out (the_access y.point y.slot n) x is),
  λ w. ⊎_elim
      (λ old. Contains-append_left out (the_access y.point y.slot n ∷ []) x ((before x).1 (w.0, old, w.2, w.3)))
      (λ e. subst (λ (a : Access). Contains (out ++ the_access y.point y.slot n ∷ []) a)
      (access_is y.point y.slot n x (ap (λ (a : Access). a.point) e.1 ∙ w.3) (ap (λ (a : Access). a.slot) e.1 ∙ w.2) (same ∙ sym long ∙ e.0))
      (Contains-push out (the_access y.point y.slot n)))
      (push_cases xs y x.occurrence w.0 w.1),
)

pub numbered_next : (xs : List Access) (k n : ℕ) (y : Access) (out : List Access) → slice_get xs k ≡ Some y → n ≡ k → AreNumbered (take k xs) out → AreNumbered (take (k + 1) xs) (out ++ the_access y.point y.slot n ∷ [])
numbered_next xs k n y out at same before = subst (λ ys. AreNumbered ys (out ++ the_access y.point y.slot n ∷ [])) (sym (take_next xs k y at)) (numbered_on (take k xs) y k n out (taken xs k (slice_get_within xs k y at)) same before)

pub pair_is : (a b : ℕ) (q : Pair) → a ≡ q.0 → b ≡ q.1 → ◌≡◌ {A = Pair} (a, b) q
pair_is a b q e f = ap (λ i. pair i b) e ∙ ap (λ i. pair q.0 i) f

pub items_none : AreItems [] []
items_none p = (λ is. absurd (none p is), λ w. absurd (let e = w in cc))

items_on : (xs : List (Option ℕ)) (y : Option ℕ) (k n : ℕ) (out : List Pair) → length xs ≡ k → n ≡ k → AreItems xs out → AreItems (xs ++ y ∷ []) (put_item n y out)
items_on xs None k n out long same before p = (
  λ is. push_old xs None p.1 (Some p.0) ((before p).0 is),
  λ w. ⊎_elim (λ old. (before p).1 old) (λ e. absurd (let h = e.1 in cc)) (push_cases xs None p.1 (Some p.0) w),
)
items_on xs (Some y) k n out long same before p = (
  λ is. ⊎_elim
      (λ old. push_old xs (Some y) p.1 (Some p.0) ((before p).0 old))
      (λ (e : ◌≡◌ {A = Pair} (y, n) p). push_new xs (Some y) p.1 (long ∙ sym same ∙ ap (λ (q : Pair). q.1) e) ∙ ap (λ (i : ℕ). Some (Some i)) (ap (λ (q : Pair). q.0) e))
      (Contains-push_cases out (y, n) p is),
  λ w. ⊎_elim
      (λ old. Contains-append_left out ((y, n) ∷ []) p ((before p).1 old))
      (λ e. subst (λ (q : Pair). Contains (out ++ (y, n) ∷ []) q) (pair_is y n p (let h = e.1 in cc) (same ∙ sym long ∙ e.0)) (Contains-push out (y, n)))
      (push_cases xs (Some y) p.1 (Some p.0) w),
)

pub items_next : (xs : List (Option ℕ)) (k n : ℕ) (y : Option ℕ) (out : List Pair) → slice_get xs k ≡ Some y → n ≡ k → AreItems (take k xs) out → AreItems (take (k + 1) xs) (put_item n y out)
items_next xs k n y out at same before = subst (λ ys. AreItems ys (put_item n y out)) (sym (take_next xs k y at)) (items_on (take k xs) y k n out (taken xs k (slice_get_within xs k y at)) same before)
