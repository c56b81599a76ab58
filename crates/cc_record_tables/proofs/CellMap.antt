-- What is kept of cells, after the objects of an instance have changed.
use Rattle.std.proofs.Common.{◌≡◌, ℕ, zero, suc, ◌<◌, length, arith, List, [], ◌∷◌, Option, Some, None, Bool, true, false, refl, sym, ap, ◌∙◌, cond, Vec, Global}
use Rattle.std.specs.Prelude.{nat_eq, nat_lt, slice_get, ◌&&◌}
use Rattle.std.proofs.lemmas.Bool.{lt-ltb}
use Rattle.indexmap.specs.IndexMap.{get}
use Rattle.cc_meaning.specs.declared.event.Cell.{Cell}
use Rattle.cc_record_laws.specs.Past.{same_cell}
use Rattle.cc_record_laws.proofs.Exact.{eqb_is}
use Rattle.cc_record_tables.specs.declared.slot.Slot.{Slot}
use Rattle.cc_record_tables.specs.declared.cells.Row.{Row}
use Rattle.cc_record_tables.specs.declared.cells.Cells.{Cells}
use Rattle.cc_record_tables.specs.CellTable.{or_none, at, row_slot, slot_in, slot_among, slot_of, has_place_in, has_place_among, has_place}

-- one cell is another where instance, object and index are the same
split : (x c : Cell) → same_cell x c ≡ (nat_eq x.instance c.instance && (nat_eq x.object c.object && nat_eq x.index c.index))
split x c = by (nat_eq x.object c.object) (nat_eq x.instance c.instance)
  where
    by : (o i : Bool) → cond o (cond i (nat_eq x.index c.index) false) false ≡ (i && (o && nat_eq x.index c.index))
    by true true = refl
    by true false = refl
    by false true = refl
    by false false = refl

abbrev pub Objects : Type 0
Objects = Option (Vec Row Global)

-- the instance has these objects now, and each other one its own
abbrev pub Turns : Cells → ℕ → Objects → Cells → Type 0
Turns old n after new = (q : ℕ) → get nat_eq new.rows q ≡ cond (nat_eq n q) after (get nat_eq old.rows q)

among_cond : (b : Bool) (s t : Objects) (o i : ℕ) → slot_among (cond b s t) o i ≡ cond b (slot_among s o i) (slot_among t o i)
among_cond true s t o i = refl
among_cond false s t o i = refl

turned : (old new : Cells) (n : ℕ) (after : Objects) → Turns old n after new → (c : Cell) → slot_of new c ≡ cond (nat_eq n c.instance) (slot_among after c.object c.index) (slot_of old c)
turned old new n after t c = ap (λ s. slot_among s c.object c.index) (t c.instance) ∙ among_cond (nat_eq n c.instance) after (get nat_eq old.rows c.instance) c.object c.index

-- what holds of an instance's objects holds of its cells
within : {X : Type 0} (n q : ℕ) (x y z : X) → (nat_eq n q ≡ true → x ≡ y) → cond (nat_eq n q) x z ≡ cond (nat_eq n q) y z
within n q x y z h = by (nat_eq n q) refl
  where
    by : (b : Bool) → nat_eq n q ≡ b → cond b x z ≡ cond b y z
    by true e = h e
    by false e = refl

nested : {X : Type 0} (b c : Bool) (x z : X) → cond b (cond c x z) z ≡ cond (b && c) x z
nested true c x z = refl
nested false c x z = refl

module _ (old new : Cells) (x : Cell) (slot : Slot) (before : Objects) (is : get nat_eq old.rows x.instance ≡ before) where
  -- the slots of the instance before
  was : (c : Cell) → nat_eq x.instance c.instance ≡ true → slot_among before c.object c.index ≡ slot_of old c
  was c e = ap (λ s. slot_among s c.object c.index) (sym is ∙ ap (get nat_eq old.rows) (eqb_is x.instance c.instance e))

  pub cells_put : (after : Vec Row Global) → ((o i : ℕ) → slot_in after.items o i ≡ cond (nat_eq x.object o && nat_eq x.index i) (Some slot) (slot_among before o i)) → Turns old x.instance (Some after) new
      → (c : Cell) → slot_of new c ≡ cond (same_cell x c) (Some slot) (slot_of old c)
  cells_put after p t c =
      turned old new x.instance (Some after) t c
      ∙ (within x.instance c.instance (slot_in after.items c.object c.index) (cond (nat_eq x.object c.object && nat_eq x.index c.index) (Some slot) (slot_of old c)) (slot_of old c)
      (λ e. p c.object c.index ∙ ap (λ s. cond (nat_eq x.object c.object && nat_eq x.index c.index) (Some slot) s) (was c e))
      ∙ (nested (nat_eq x.instance c.instance) (nat_eq x.object c.object && nat_eq x.index c.index) (Some slot) (slot_of old c)
      ∙ ap (λ b. cond b (Some slot) (slot_of old c)) (sym (split x c))))

  pub cells_same : (after : Vec Row Global) → ((o i : ℕ) → slot_in after.items o i ≡ slot_among before o i) → Turns old x.instance (Some after) new → (c : Cell) → slot_of new c ≡ slot_of old c
  cells_same after p t c =
      turned old new x.instance (Some after) t c
      ∙ (within x.instance c.instance (slot_in after.items c.object c.index) (slot_of old c) (slot_of old c) (λ e. p c.object c.index ∙ was c e) ∙ by (nat_eq x.instance c.instance))
    where
      by : (b : Bool) → cond b (slot_of old c) (slot_of old c) ≡ slot_of old c
      by true = refl
      by false = refl

  pub cells_replaced : (after : Vec Row Global) → ((o i : ℕ) → slot_in after.items o i ≡ cond ((nat_eq x.object o && nat_eq x.index i) && has_place_among before x.object x.index) (Some slot) (slot_among before o i))
      → Turns old x.instance (Some after) new → (c : Cell) → slot_of new c ≡ cond (same_cell x c && has_place old x) (Some slot) (slot_of old c)
  cells_replaced after p t c =
      turned old new x.instance (Some after) t c
      ∙ (within x.instance c.instance (slot_in after.items c.object c.index) (cond ((nat_eq x.object c.object && nat_eq x.index c.index) && has_place_among before x.object x.index) (Some slot) (slot_of old c)) (slot_of old c)
      (λ e. p c.object c.index ∙ ap (λ s. cond ((nat_eq x.object c.object && nat_eq x.index c.index) && has_place_among before x.object x.index) (Some slot) s) (was c e))
      ∙ (nested (nat_eq x.instance c.instance) ((nat_eq x.object c.object && nat_eq x.index c.index) && has_place_among before x.object x.index) (Some slot) (slot_of old c)
      ∙ ap (λ b. cond b (Some slot) (slot_of old c)) (regroup (nat_eq x.instance c.instance) (nat_eq x.object c.object && nat_eq x.index c.index) ∙ ap (λ b. b && has_place old x) (sym (split x c)))))
    where
      regroup : (a b : Bool) → (a && (b && has_place_among before x.object x.index)) ≡ ((a && b) && has_place old x)
      regroup true b = ap (λ s. b && has_place_among s x.object x.index) (sym is)
      regroup false b = refl

-- nothing is replaced where the cell has no place
pub replaced_none : (old : Cells) (x : Cell) (slot : Slot) → get nat_eq old.rows x.instance ≡ None → (c : Cell) → slot_of old c ≡ cond (same_cell x c && has_place old x) (Some slot) (slot_of old c)
replaced_none old x slot h c = by (same_cell x c) (has_place old x) (ap (λ s. has_place_among s x.object x.index) h)
  where
    by : (b d : Bool) → d ≡ false → slot_of old c ≡ cond (b && d) (Some slot) (slot_of old c)
    by true d e = ap (λ d. cond d (Some slot) (slot_of old c)) (sym e)
    by false d e = refl

-- an instance ends
pub cells_ended : (old new : Cells) (n : ℕ) → Turns old n None new → (c : Cell) → slot_of new c ≡ cond (nat_eq n c.instance) None (slot_of old c)
cells_ended old new n t c = turned old new n None t c

some_within : {X : Type 0} (slots : List (Option X)) (i : ℕ) (s : X) → or_none (slice_get slots i) ≡ Some s → i < length slots
some_within [] i s e = absurd (let z = e in cc)
some_within (y ∷ slots) zero s e = omega arith
some_within (y ∷ slots) (suc i) s e = let lt = some_within slots i s e in omega arith

-- a cell of which something is kept has a place
pub placed : (cells : Cells) (x : Cell) (s : Slot) → slot_of cells x ≡ Some s → has_place cells x ≡ true
placed cells x s h = among (get nat_eq cells.rows x.instance) h
  where
    in_slots : (slots : List (Option Slot)) (i : ℕ) → at slots i ≡ Some s → nat_lt i (length slots) ≡ true
    in_slots slots i e = lt-ltb i (length slots) (some_within slots i s e)

    in_rows : (rows : List Row) → slot_in rows x.object x.index ≡ Some s → has_place_in rows x.object x.index ≡ true
    in_rows [] e = absurd (let z = e in cc)
    in_rows (r ∷ rows) e = by (nat_eq r.object x.object) e (λ g. in_rows rows g)
      where
        by : (b : Bool) → cond b (row_slot r x.index) (slot_in rows x.object x.index) ≡ Some s → (slot_in rows x.object x.index ≡ Some s → has_place_in rows x.object x.index ≡ true) → cond b (nat_lt x.index (length r.slots.items)) (has_place_in rows x.object x.index) ≡ true
        by true g ih = in_slots r.slots.items x.index g
        by false g ih = ih g

    among : (o : Objects) → slot_among o x.object x.index ≡ Some s → has_place_among o x.object x.index ≡ true
    among (Some rows) e = in_rows rows.items e
    among None e = absurd (let z = e in cc)
