-- What is kept of cells, after one is put or replaced.
use Rattle.std.proofs.Common.{◌≡◌, ℕ, zero, suc, ◌+◌, ◌<◌, ◌≤◌, List, [], ◌∷◌, ◌++◌, length, ⊎_elim, Option, Some, None, Bool, true, false, refl, sym, ap, ◌∙◌, subst, arith, cond, eq-eqb}
use Rattle.std.specs.Prelude.{nat_eq, nat_lt, slice_get, slice_set, slice_index_or, ◌&&◌}
use Rattle.std.proofs.lemmas.Option.{slice_get-get_or}
use Rattle.std.proofs.lemmas.Bool.{cases_eq, ne_eqb, lt-ltb, ltb-true}
use Rattle.cc_record_tables.specs.declared.slot.Slot.{Slot}
use Rattle.cc_record_tables.specs.declared.cells.Row.{Row}
use Rattle.cc_record_tables.specs.CellTable.{at, row_slot, SameSlots, PutsSlot, ReplacesSlot, slot_in, place_from, has_place_in, SameRows, Puts, Replaces}

eqb_is : (a b : ℕ) → nat_eq a b ≡ true → a ≡ b
eqb_is a b h = ⊎_elim (λ same. same) (λ ne. absurd (let z = sym (ne_eqb a b ne) ∙ h in cc)) (cases_eq a b)

-- one place more, of which nothing is kept
pub at_more : (slots : List (Option Slot)) (i : ℕ) → at (slots ++ None ∷ []) i ≡ at slots i
at_more [] zero = refl
at_more [] (suc i) = refl
at_more (x ∷ slots) zero = refl
at_more (x ∷ slots) (suc i) = at_more slots i

pub same_more : (old new : List (Option Slot)) → SameSlots old new → SameSlots old (new ++ None ∷ [])
same_more old new h i = at_more new i ∙ h i

ne_zero : (n : ℕ) → nat_eq 0 (suc n) ≡ false
ne_zero n = ne_eqb 0 (suc n) (λ e. absurd (omega (arith, e)))

zero_ne : (n : ℕ) → nat_eq (suc n) 0 ≡ false
zero_ne n = ne_eqb (suc n) 0 (λ e. absurd (omega (arith, e)))

eq_suc : (a b : ℕ) → nat_eq (suc a) (suc b) ≡ nat_eq a b
eq_suc a b = ⊎_elim
    (λ e. eq-eqb (suc a) (suc b) (ap suc e) ∙ sym (eq-eqb a b e))
    (λ ne. ne_eqb (suc a) (suc b) (λ e. ne (omega (arith, e))) ∙ sym (ne_eqb a b ne))
    (cases_eq a b)

-- a slot is set at an index within
pub at_set : (slots : List (Option Slot)) (index : ℕ) (slot : Slot) → index < length slots → PutsSlot slots index slot (slice_set slots index (Some slot))
at_set [] index slot h i = absurd (omega arith)
at_set (x ∷ slots) zero slot h zero = refl
at_set (x ∷ slots) zero slot h (suc i) = ap (λ b. cond b (Some slot) (at slots i)) (sym (ne_zero i))
at_set (x ∷ slots) (suc index) slot h zero = ap (λ b. cond b (Some slot) x) (sym (zero_ne index))
at_set (x ∷ slots) (suc index) slot h (suc i) = at_set slots index slot (omega arith) i ∙ ap (λ b. cond b (Some slot) (at slots i)) (sym (eq_suc index i))

-- a slot is set where it has a place
pub replaced_slot : (slots : List (Option Slot)) (index : ℕ) (slot : Slot) → index < length slots → ReplacesSlot slots index slot (slice_set slots index (Some slot))
replaced_slot slots index slot h i = at_set slots index slot h i ∙ more (nat_eq index i) (nat_lt index (length slots)) (lt-ltb index (length slots) h) (Some slot) (at slots i)
  where
    more : {X : Type 0} (b c : Bool) → c ≡ true → (x z : X) → cond b x z ≡ cond (b && c) x z
    more true c h x z = ap (λ c. cond c x z) (sym h)
    more false c h x z = refl

pub kept_slot : (slots : List (Option Slot)) (index : ℕ) (slot : Slot) → length slots ≤ index → ReplacesSlot slots index slot slots
kept_slot slots index slot h i = none (nat_eq index i) (nat_lt index (length slots)) (past (nat_lt index (length slots)) refl)
  where
    past : (c : Bool) → nat_lt index (length slots) ≡ c → c ≡ false
    past true e = absurd (let lt = ltb-true index (length slots) e in omega arith)
    past false e = refl

    none : (b c : Bool) → c ≡ false → at slots i ≡ cond (b && c) (Some slot) (at slots i)
    none true c h = ap (λ c. cond c (Some slot) (at slots i)) (sym h)
    none false c h = refl

pub put_after : (old mid new : List (Option Slot)) (index : ℕ) (slot : Slot) → SameSlots old mid → PutsSlot mid index slot new → PutsSlot old index slot new
put_after old mid new index slot s p i = p i ∙ ap (λ x. cond (nat_eq index i) (Some slot) x) (s i)

-- ---- rows

-- the first row of the object stands at the place
abbrev pub PlacedAt : List Row → ℕ → ℕ → Type 0
PlacedAt [] object k = ⊥
PlacedAt (r ∷ rows) object zero = r.object ≡ object
PlacedAt (r ∷ rows) object (suc k) = (nat_eq r.object object ≡ false) × PlacedAt rows object k

pub place_is : (rows : List Row) (n object m : ℕ) → place_from n rows object ≡ Some m → (k : ℕ) × (m ≡ n + k) × PlacedAt rows object k
place_is [] n object m h = absurd (let z = h in cc)
place_is (r ∷ rows) n object m h = by (nat_eq r.object object) refl h (λ q. place_is rows (n + 1) object m q)
  where
    by : (b : Bool) → nat_eq r.object object ≡ b → cond b (Some n) (place_from (n + 1) rows object) ≡ Some m → (place_from (n + 1) rows object ≡ Some m → (k : ℕ) × (m ≡ (n + 1) + k) × PlacedAt rows object k) → (k : ℕ) × (m ≡ n + k) × PlacedAt (r ∷ rows) object k
    by true e q ih = (0, (let z : n ≡ m = (let w = q in cc) in omega arith), eqb_is r.object object e)
    by false e q ih = let p = ih q in (suc p.0, (let z = p.1 in omega arith), (e, p.2))

pub placed_first : (rows : List Row) (object m : ℕ) → place_from 0 rows object ≡ Some m → PlacedAt rows object m
placed_first rows object m h = let p = place_is rows 0 object m h in let e : p.0 ≡ m = (let z = p.1 in omega arith) in subst (PlacedAt rows object) e p.2

pub placed_within : (rows : List Row) (object k : ℕ) → PlacedAt rows object k → k < length rows
placed_within [] object k p = absurd p
placed_within (r ∷ rows) object zero p = omega arith
placed_within (r ∷ rows) object (suc k) p = let w = placed_within rows object k p.1 in omega arith

-- no row of the object
abbrev pub IsAbsent : List Row → ℕ → Type 0
IsAbsent [] object = Unit {0}
IsAbsent (r ∷ rows) object = (nat_eq r.object object ≡ false) × IsAbsent rows object

pub absent_first : (rows : List Row) (n object : ℕ) → place_from n rows object ≡ None → IsAbsent rows object
absent_first [] n object h = tt
absent_first (r ∷ rows) n object h = by (nat_eq r.object object) refl h (λ q. absent_first rows (n + 1) object q)
  where
    by : (b : Bool) → nat_eq r.object object ≡ b → cond b (Some n) (place_from (n + 1) rows object) ≡ None → (place_from (n + 1) rows object ≡ None → IsAbsent rows object) → IsAbsent (r ∷ rows) object
    by true e q ih = absurd (let z = q in cc)
    by false e q ih = (e, ih q)

apart_objects : {X : Type 0} (a b o : ℕ) → nat_eq a b ≡ false → (x y z : X) → cond (nat_eq a o) x (cond (nat_eq b o) y z) ≡ cond (nat_eq b o) y (cond (nat_eq a o) x z)
apart_objects a b o ne x y z = by (nat_eq a o) (nat_eq b o) refl refl
  where
    by : (c d : Bool) → nat_eq a o ≡ c → nat_eq b o ≡ d → cond c x (cond d y z) ≡ cond d y (cond c x z)
    by true true p q = absurd (let w : a ≡ b = eqb_is a o p ∙ sym (eqb_is b o q) in let t : true ≡ false = sym (eq-eqb a b w) ∙ ne in cc)
    by true false p q = refl
    by false d p q = refl

over : {X : Type 0} (a b o : ℕ) → a ≡ b → (x y z : X) → cond (nat_eq a o) x z ≡ cond (nat_eq b o) x (cond (nat_eq a o) y z)
over a b o e x y z = ap (λ c. cond (nat_eq c o) x z) e ∙ by (nat_eq b o) refl
  where
    by : (c : Bool) → nat_eq b o ≡ c → cond c x z ≡ cond c x (cond (nat_eq a o) y z)
    by true h = refl
    by false h = sym (ap (λ c. cond c y z) (ap (λ c. nat_eq c o) e ∙ h))

-- another row of the object stands at its place
pub slot_set : (rows : List Row) (object k : ℕ) (r' : Row) → PlacedAt rows object k → r'.object ≡ object
    → (o i : ℕ) → slot_in (slice_set rows k r') o i ≡ cond (nat_eq object o) (row_slot r' i) (slot_in rows o i)
slot_set [] object k r' p same o i = absurd p
slot_set (x ∷ rows) object zero r' p same o i =
    ap (λ b. cond (nat_eq b o) (row_slot r' i) (slot_in rows o i)) (same ∙ sym p)
    ∙ over x.object object o p (row_slot r' i) (row_slot x i) (slot_in rows o i)
slot_set (x ∷ rows) object (suc k) r' p same o i =
    ap (λ t. cond (nat_eq x.object o) (row_slot x i) t) (slot_set rows object k r' p.1 same o i)
    ∙ apart_objects x.object object o p.0 (row_slot x i) (row_slot r' i) (slot_in rows o i)

-- what the row of an object keeps
pub slot_placed : (rows : List Row) (object k : ℕ) (r : Row) → PlacedAt rows object k → slice_get rows k ≡ Some r → (i : ℕ) → slot_in rows object i ≡ row_slot r i
slot_placed [] object k r p g i = absurd p
slot_placed (x ∷ rows) object zero r p g i =
    let e : x ≡ r = (let z = g in cc) in
    ap (λ b. cond b (row_slot x i) (slot_in rows object i)) (eq-eqb x.object object p) ∙ ap (λ r. row_slot r i) e
slot_placed (x ∷ rows) object (suc k) r p g i =
    ap (λ b. cond b (row_slot x i) (slot_in rows object i)) p.0 ∙ slot_placed rows object k r p.1 g i

pub place_placed : (rows : List Row) (object k : ℕ) (r : Row) → PlacedAt rows object k → slice_get rows k ≡ Some r → (i : ℕ) → has_place_in rows object i ≡ nat_lt i (length r.slots.items)
place_placed [] object k r p g i = absurd p
place_placed (x ∷ rows) object zero r p g i =
    let e : x ≡ r = (let z = g in cc) in
    ap (λ b. cond b (nat_lt i (length x.slots.items)) (has_place_in rows object i)) (eq-eqb x.object object p) ∙ ap (λ r. nat_lt i (length r.slots.items)) e
place_placed (x ∷ rows) object (suc k) r p g i =
    ap (λ b. cond b (nat_lt i (length x.slots.items)) (has_place_in rows object i)) p.0 ∙ place_placed rows object k r p.1 g i

pub place_absent : (rows : List Row) (object : ℕ) → IsAbsent rows object → (i : ℕ) → has_place_in rows object i ≡ false
place_absent [] object a i = refl
place_absent (x ∷ rows) object a i = ap (λ b. cond b (nat_lt i (length x.slots.items)) (has_place_in rows object i)) a.0 ∙ place_absent rows object a.1 i

-- a row of a new object behind all
pub slot_behind : (rows : List Row) (r : Row) → IsAbsent rows r.object → (o i : ℕ) → slot_in (rows ++ r ∷ []) o i ≡ cond (nat_eq r.object o) (row_slot r i) (slot_in rows o i)
slot_behind [] r a o i = refl
slot_behind (x ∷ rows) r a o i =
    ap (λ t. cond (nat_eq x.object o) (row_slot x i) t) (slot_behind rows r a.1 o i)
    ∙ apart_objects x.object r.object o a.0 (row_slot x i) (row_slot r i) (slot_in rows o i)

nested : {X : Type 0} (b c : Bool) (x z : X) → cond b (cond c x z) z ≡ cond (b && c) x z
nested true c x z = refl
nested false c x z = refl

when : {X : Type 0} (object o : ℕ) (x y z : X) → (nat_eq object o ≡ true → x ≡ y) → cond (nat_eq object o) x z ≡ cond (nat_eq object o) y z
when object o x y z h = by (nat_eq object o) refl
  where
    by : (b : Bool) → nat_eq object o ≡ b → cond b x z ≡ cond b y z
    by true e = h e
    by false e = refl

-- a put into the row of the object is a put
pub puts_placed : (rows : List Row) (object k index : ℕ) (slot : Slot) (r r' : Row) → PlacedAt rows object k → slice_get rows k ≡ Some r → r'.object ≡ r.object → r.object ≡ object
    → PutsSlot r.slots.items index slot r'.slots.items → Puts rows object index slot (slice_set rows k r')
puts_placed rows object k index slot r r' p g same is put o i =
    slot_set rows object k r' p (same ∙ is) o i
    ∙ when object o (row_slot r' i) (cond (nat_eq index i) (Some slot) (slot_in rows o i)) (slot_in rows o i)
    (λ e. put i ∙ ap (λ t. cond (nat_eq index i) (Some slot) t) (sym (slot_placed rows object k r p g i) ∙ ap (λ x. slot_in rows x i) (eqb_is object o e)))
    ∙ nested (nat_eq object o) (nat_eq index i) (Some slot) (slot_in rows o i)

-- nothing is put into it
pub same_placed : (rows : List Row) (object k : ℕ) (r r' : Row) → PlacedAt rows object k → slice_get rows k ≡ Some r → r'.object ≡ r.object → r.object ≡ object
    → SameSlots r.slots.items r'.slots.items → SameRows rows (slice_set rows k r')
same_placed rows object k r r' p g same is put o i =
    slot_set rows object k r' p (same ∙ is) o i
    ∙ when object o (row_slot r' i) (slot_in rows o i) (slot_in rows o i)
    (λ e. put i ∙ (sym (slot_placed rows object k r p g i) ∙ ap (λ x. slot_in rows x i) (eqb_is object o e)))
    ∙ by (nat_eq object o)
  where
    by : (b : Bool) → cond b (slot_in rows o i) (slot_in rows o i) ≡ slot_in rows o i
    by true = refl
    by false = refl

-- the object at a place
pub placed_object : (rows : List Row) (object k : ℕ) (r : Row) → PlacedAt rows object k → slice_get rows k ≡ Some r → r.object ≡ object
placed_object [] object k r p g = absurd p
placed_object (x ∷ rows) object zero r p g = let e : x ≡ r = (let z = g in cc) in ap (λ r. r.object) (sym e) ∙ p
placed_object (x ∷ rows) object (suc k) r p g = placed_object rows object k r p.1 g

absent_slot : (rows : List Row) (object : ℕ) → IsAbsent rows object → (i : ℕ) → slot_in rows object i ≡ None
absent_slot [] object a i = refl
absent_slot (x ∷ rows) object a i = ap (λ b. cond b (row_slot x i) (slot_in rows object i)) a.0 ∙ absent_slot rows object a.1 i

-- a new row with one slot is a put
pub puts_behind : (rows : List Row) (object index : ℕ) (slot : Slot) (r : Row) → IsAbsent rows object → r.object ≡ object → PutsSlot [] index slot r.slots.items
    → Puts rows object index slot (rows ++ r ∷ [])
puts_behind rows object index slot r a is put o i =
    slot_behind rows r (subst (IsAbsent rows) (sym is) a) o i
    ∙ ap (λ x. cond (nat_eq x o) (row_slot r i) (slot_in rows o i)) is
    ∙ when object o (row_slot r i) (cond (nat_eq index i) (Some slot) (slot_in rows o i)) (slot_in rows o i)
    (λ e. put i ∙ ap (λ t. cond (nat_eq index i) (Some slot) t) (sym (absent_slot rows object a i) ∙ ap (λ x. slot_in rows x i) (eqb_is object o e)))
    ∙ nested (nat_eq object o) (nat_eq index i) (Some slot) (slot_in rows o i)

-- ---- replacing

further : {X : Type 0} (b c : Bool) (x z : X) → c ≡ true → cond b x z ≡ cond (b && c) x z
further true c x z h = ap (λ d. cond d x z) (sym h)
further false c x z h = refl

never : {X : Type 0} (b c : Bool) (x z : X) → c ≡ false → z ≡ cond (b && c) x z
never true c x z h = ap (λ d. cond d x z) (sym h)
never false c x z h = refl

pub replaces_put : (old new : List Row) (object index : ℕ) (slot : Slot) → has_place_in old object index ≡ true → Puts old object index slot new → Replaces old object index slot new
replaces_put old new object index slot h p o i = p o i ∙ further (nat_eq object o && nat_eq index i) (has_place_in old object index) (Some slot) (slot_in old o i) h

pub replaces_none : (rows : List Row) (object index : ℕ) (slot : Slot) → has_place_in rows object index ≡ false → Replaces rows object index slot rows
replaces_none rows object index slot h o i = never (nat_eq object o && nat_eq index i) (has_place_in rows object index) (Some slot) (slot_in rows o i) h

-- what is replaced in the row of the object is replaced
pub replaces_placed : (rows : List Row) (object k index : ℕ) (slot : Slot) (r r' : Row) → PlacedAt rows object k → slice_get rows k ≡ Some r → r'.object ≡ r.object
    → ReplacesSlot r.slots.items index slot r'.slots.items → Replaces rows object index slot (slice_set rows k r')
replaces_placed rows object k index slot r r' p g same put o i =
    let is = placed_object rows object k r p g in
    slot_set rows object k r' p (same ∙ is) o i
    ∙ (when object o (row_slot r' i) (cond (nat_eq index i && has_place_in rows object index) (Some slot) (slot_in rows o i)) (slot_in rows o i)
    (λ e. put i
    ∙ (ap (λ c. cond (nat_eq index i && c) (Some slot) (row_slot r i)) (sym (place_placed rows object k r p g index))
    ∙ ap (λ t. cond (nat_eq index i && has_place_in rows object index) (Some slot) t) (sym (slot_placed rows object k r p g i) ∙ ap (λ x. slot_in rows x i) (eqb_is object o e))))
    ∙ flat (nat_eq object o) (nat_eq index i) (has_place_in rows object index) (Some slot) (slot_in rows o i))
  where
    flat : {X : Type 0} (a b c : Bool) (x z : X) → cond a (cond (b && c) x z) z ≡ cond ((a && b) && c) x z
    flat true b c x z = refl
    flat false b c x z = refl

pub row_at : (rows : List Row) (k : ℕ) (r : Row) → k < length rows → r ≡ slice_index_or rows k r → slice_get rows k ≡ Some r
row_at rows k r lt e = slice_get-get_or rows k r lt ∙ ap Some (sym e)
