-- Accesses in lanes.
use Rattle.std.proofs.Common.{ℕ, zero, suc, ◌≡◌, ◌<◌, Bool, true, false, List, [], ◌∷◌, ◌++◌, Some, length, refl, sym, ap, ◌∙◌, arith}
use Rattle.std.specs.Prelude.{Contains, not, nat_eq, slice_get}
use Rattle.std.proofs.lemmas.Bool.{eqb-true, eqb-false, eq-eqb, ne_eqb}
use Rattle.cc_rows.specs.Gains.{Gains}
use Rattle.cc_rows.proofs.Gained.{gains_none, gains_push}
use Rattle.cc_flows.specs.declared.mask.Touch.{Touch}
use Rattle.cc_flows.specs.Masks.{row_of}
use Rattle.cc_listed.specs.declared.table.Access.{Access}
use Rattle.cc_listed.specs.declared.table.Tables.{Tables}
use Rattle.cc_listed.specs.Tabled.{component_of}
use Rattle.cc_lanes.specs.declared.lane.Lanes.{Lanes}
use Rattle.cc_lanes.specs.declared.laid.Whose.{Whose}
use Rattle.cc_lanes.specs.declared.laid.Whose.TheVariants as whose
use Rattle.cc_lanes.specs.Rows.{Pair}
use Rattle.cc_lanes.specs.Lanes.{AreLanes}
use Rattle.cc_lanes.specs.Spreading.{goes, goes_in, goes_into, touch_of, IsInto, IsSpread}

module _ (T : Tables) (lanes : List Pair) (w : Whose) (a : Access) (k : ℕ) where
  pub into : (out : List Touch) → goes_into T lanes w a k ≡ true → Gains out (out ++ touch_of T a k ∷ []) (IsInto T lanes w a k)
  into out passes = gains_push out (touch_of T a k) (IsInto T lanes w a k) (passes, refl) (λ x i. i.1)

  pub not_into : (out : List Touch) → goes_into T lanes w a k ≡ false → Gains out out (IsInto T lanes w a k)
  not_into out no_way = gains_none out (IsInto T lanes w a k) (λ x i. let e = i.0 in cc)

pub get_some : {X : Type 0} (xs : List X) (k : ℕ) → k < length xs → (x : X) × (slice_get xs k ≡ Some x)
get_some [] k lt = absurd (omega arith)
get_some (x ∷ xs) zero lt = (x, refl)
get_some (x ∷ xs) (suc k) lt = get_some xs k (omega arith)

pub goes_own : (a b : ℕ) → goes whose.Own a b ≡ true → a ≡ b
goes_own a b e = eqb-true a b e

not_true : (b : Bool) → not b ≡ true → b ≡ false
not_true true e = absurd (let h = e in cc)
not_true false e = refl

pub goes_others : (a b : ℕ) → goes whose.Others a b ≡ true → a ≡ b → ⊥
goes_others a b e same = eqb-false a b (not_true (nat_eq a b) e) same

pub own_goes : (a b : ℕ) → a ≡ b → goes whose.Own a b ≡ true
own_goes a b e = eq-eqb a b e

pub others_go : (a b : ℕ) → (a ≡ b → ⊥) → goes whose.Others a b ≡ true
others_go a b ne = ap not (ne_eqb a b ne)

-- an access stands in the lane of this number
pub record InLane (T : Tables) (lanes : Lanes) (w : Whose) (a : Access) (x : Touch) : Type 0 where
  pub number : ℕ
  pub lane : Pair
  pub at : slice_get lanes.pairs.items number ≡ Some lane
  pub same_slot : lane.0 ≡ a.slot
  pub within : a.slot < length T.slots
  pub into : goes w (component_of T a.occurrence) lane.1 ≡ true
  pub is : touch_of T a number ≡ x

module _ (T : Tables) (pairs : List Pair) (lanes : Lanes) (are : AreLanes T pairs lanes) where
  pub in_lane : (w : Whose) (a : Access) (x : Touch) → IsSpread T lanes w a x → InLane T lanes w a x
  in_lane w a x s =
      let r = (are.rows a.slot s.0).0 s.1 in
      record {
        number = s.0;
        lane = r.1.0;
        at = r.1.1;
        same_slot = r.1.2;
        within = r.0;
        into = sym (ap (goes_in w (component_of T a.occurrence)) r.1.1) ∙ s.2.0;
        is = s.2.1;
      }

  pub from_lane : (w : Whose) (a : Access) (k : ℕ) (lane : Pair) → slice_get lanes.pairs.items k ≡ Some lane → lane.0 ≡ a.slot → a.slot < length T.slots → goes w (component_of T a.occurrence) lane.1 ≡ true → IsSpread T lanes w a (touch_of T a k)
  from_lane w a k lane at same lt goes_there = (k, (are.rows a.slot k).1 (lt, (lane, at, same)), (ap (goes_in w (component_of T a.occurrence)) at ∙ goes_there, refl))
