-- What is kept of activations, after a change.
use Rattle.std.proofs.Common.{◌≡◌, ℕ, suc, ◌+◌, ◌<◌, List, [], ◌∷◌, ◌++◌, length, Option, Some, None, Bool, true, false, refl, sym, ap, ◌∙◌, subst, arith, cond, eq-eqb}
use Rattle.std.specs.Prelude.{nat_eq, slice_set, is_some, ◌&&◌}
use Rattle.cc_record_laws.proofs.Exact.{eqb_is}
use Rattle.cc_record_tables.specs.declared.activations.Read.{Read}
use Rattle.cc_record_tables.specs.ActivationTable.{read_in, place_from, has_place_in}

-- a place at the end, where nothing was read
pub read_behind : (reads : List Read) (r : Read) → r.definition ≡ None → (u : ℕ) → read_in (reads ++ r ∷ []) u ≡ read_in reads u
read_behind [] r h u = by (nat_eq r.occ u)
  where
    by : (b : Bool) → cond b r.definition None ≡ None
    by true = h
    by false = refl
read_behind (x ∷ reads) r h u = ap (λ t. cond (nat_eq x.occ u) x.definition t) (read_behind reads r h u)

pub place_behind : (reads : List Read) (r : Read) → has_place_in (reads ++ r ∷ []) r.occ ≡ true
place_behind [] r = ap (λ b. cond b true false) (eq-eqb r.occ r.occ refl)
place_behind (x ∷ reads) r = by (nat_eq x.occ r.occ) (place_behind reads r)
  where
    by : (b : Bool) → has_place_in (reads ++ r ∷ []) r.occ ≡ true → cond b true (has_place_in (reads ++ r ∷ []) r.occ) ≡ true
    by true h = refl
    by false h = h

pub place_some : (reads : List Read) (n occ m : ℕ) → place_from n reads occ ≡ Some m → has_place_in reads occ ≡ true
place_some [] n occ m h = absurd (let z = h in cc)
place_some (x ∷ reads) n occ m h = by (nat_eq x.occ occ) h (λ q. place_some reads (n + 1) occ m q)
  where
    by : (b : Bool) → cond b (Some n) (place_from (n + 1) reads occ) ≡ Some m → (place_from (n + 1) reads occ ≡ Some m → has_place_in reads occ ≡ true) → cond b true (has_place_in reads occ) ≡ true
    by true q ih = refl
    by false q ih = ih q

pub place_is_some : (reads : List Read) (occ : ℕ) → is_some (place_from 0 reads occ) ≡ true → has_place_in reads occ ≡ true
place_is_some reads occ h = by (place_from 0 reads occ) refl h
  where
    by : (o : Option ℕ) → place_from 0 reads occ ≡ o → is_some o ≡ true → has_place_in reads occ ≡ true
    by (Some m) e h = place_some reads 0 occ m e
    by None e h = absurd (let z = h in cc)

pub place_none : (reads : List Read) (n occ : ℕ) → place_from n reads occ ≡ None → has_place_in reads occ ≡ false
place_none [] n occ h = refl
place_none (x ∷ reads) n occ h = by (nat_eq x.occ occ) h (λ q. place_none reads (n + 1) occ q)
  where
    by : (b : Bool) → cond b (Some n) (place_from (n + 1) reads occ) ≡ None → (place_from (n + 1) reads occ ≡ None → has_place_in reads occ ≡ false) → cond b true (has_place_in reads occ) ≡ false
    by true q ih = absurd (let z = q in cc)
    by false q ih = ih q

apart_occ : {X : Type 0} (a b u : ℕ) → nat_eq a b ≡ false → (x y z : X) → cond (nat_eq a u) x (cond (nat_eq b u) y z) ≡ cond (nat_eq b u) y (cond (nat_eq a u) x z)
apart_occ a b u ne x y z = by (nat_eq a u) (nat_eq b u) refl refl
  where
    by : (c d : Bool) → nat_eq a u ≡ c → nat_eq b u ≡ d → cond c x (cond d y z) ≡ cond d y (cond c x z)
    by true true p q = absurd (let w : a ≡ b = eqb_is a u p ∙ sym (eqb_is b u q) in let t : true ≡ false = sym (eq-eqb a b w) ∙ ne in cc)
    by true false p q = refl
    by false d p q = refl

over_occ : {X : Type 0} (a b u : ℕ) → a ≡ b → (x y z : X) → cond (nat_eq b u) x z ≡ cond (nat_eq b u) x (cond (nat_eq a u) y z)
over_occ a b u e x y z = by (nat_eq b u) refl
  where
    by : (c : Bool) → nat_eq b u ≡ c → cond c x z ≡ cond c x (cond (nat_eq a u) y z)
    by true h = refl
    by false h = sym (ap (λ c. cond c y z) (ap (λ c. nat_eq c u) e ∙ h))

-- what stands at the place of the occurrence is another read of it
pub read_set : (reads : List Read) (n occ m : ℕ) (d : Option ℕ) → place_from n reads occ ≡ Some m
    → (k : ℕ) × (m ≡ n + k) × (k < length reads) × ((u : ℕ) → read_in (slice_set reads k (record { occ = occ; definition = d })) u ≡ cond (nat_eq occ u) d (read_in reads u))
read_set [] n occ m d h = absurd (let z = h in cc)
read_set (x ∷ reads) n occ m d h = by (nat_eq x.occ occ) refl h (λ q. read_set reads (n + 1) occ m d q)
  where
    by : (b : Bool) → nat_eq x.occ occ ≡ b → cond b (Some n) (place_from (n + 1) reads occ) ≡ Some m
        → (place_from (n + 1) reads occ ≡ Some m → (k : ℕ) × (m ≡ (n + 1) + k) × (k < length reads) × ((u : ℕ) → read_in (slice_set reads k (record { occ = occ; definition = d })) u ≡ cond (nat_eq occ u) d (read_in reads u)))
        → (k : ℕ) × (m ≡ n + k) × (k < length (x ∷ reads)) × ((u : ℕ) → read_in (slice_set (x ∷ reads) k (record { occ = occ; definition = d })) u ≡ cond (nat_eq occ u) d (read_in (x ∷ reads) u))
    by true e q ih = (0, (let z : n ≡ m = (let w = q in cc) in omega arith), omega arith, λ u. over_occ x.occ occ u (eqb_is x.occ occ e) d x.definition (read_in reads u))
    by false e q ih =
        let p = ih q in
        (suc p.0, (let z = p.1 in omega arith), (let z = p.2 in omega arith), λ u. ap (λ t. cond (nat_eq x.occ u) x.definition t) (p.3 u) ∙ apart_occ x.occ occ u e x.definition d (read_in reads u))

pub read_set_first : (reads : List Read) (occ m : ℕ) (d : Option ℕ) → place_from 0 reads occ ≡ Some m
    → (m < length reads) × ((u : ℕ) → read_in (slice_set reads m (record { occ = occ; definition = d })) u ≡ cond (nat_eq occ u && has_place_in reads occ) d (read_in reads u))
read_set_first reads occ m d h =
    let p = read_set reads 0 occ m d h in
    let e : p.0 ≡ m = (let z = p.1 in omega arith) in (
      subst (λ k. k < length reads) e p.2,
      λ u. ap (λ k. read_in (slice_set reads k (record { occ = occ; definition = d })) u) (sym e) ∙ (p.3 u ∙ more (nat_eq occ u) (has_place_in reads occ) (place_some reads 0 occ m h) d (read_in reads u)),
    )
  where
    more : {X : Type 0} (b c : Bool) → c ≡ true → (x z : X) → cond b x z ≡ cond (b && c) x z
    more true c h x z = ap (λ c. cond c x z) (sym h)
    more false c h x z = refl

pub read_set_none : (reads : List Read) (occ : ℕ) (d : Option ℕ) → has_place_in reads occ ≡ false → (u : ℕ) → read_in reads u ≡ cond (nat_eq occ u && has_place_in reads occ) d (read_in reads u)
read_set_none reads occ d h u = never (nat_eq occ u) (has_place_in reads occ) h d (read_in reads u)
  where
    never : {X : Type 0} (b c : Bool) → c ≡ false → (x z : X) → z ≡ cond (b && c) x z
    never true c h x z = ap (λ c. cond c x z) (sym h)
    never false c h x z = refl
