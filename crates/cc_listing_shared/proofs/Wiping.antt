-- What is wiped.
use Rattle.std.proofs.Common.{ℕ, ◌≡◌, ◌<◌, ◌⊎◌, inl, inr, ⊎_elim, true, List, ◌++◌, Some, length, refl, sym, ap, ◌∙◌, subst, arith}
use Rattle.std.specs.Prelude.{Contains, ◌↔◌, filter, map, slice_get, Result, Ok, Err, IfOk}
use Rattle.std.specs.declared.vec.Vec.{Vec}
use Rattle.std.specs.declared.alloc.Global.{Global}
use Rattle.std.proofs.lemmas.List.Elements.{Contains-append_left, Contains-append_right, Contains-append_cases}
use Rattle.cc_base.specs.declared.memory.Memory.{Memory}
use Rattle.cc_flows.specs.declared.mask.Touch.{Touch}
use Rattle.cc_flows.specs.Masks.{row_of}
use Rattle.cc_rows.specs.Gains.{Each}
use Rattle.cc_listed.specs.declared.table.Access.{Access}
use Rattle.cc_listed.specs.declared.table.Tables.{Tables}
use Rattle.cc_lanes.specs.declared.lane.Lanes.{Lanes}
use Rattle.cc_lanes.specs.declared.laid.Whose.{Whose}
use Rattle.cc_lanes.specs.declared.laid.Whose.TheVariants as whose
use Rattle.cc_lanes.specs.Rows.{Pair, Holds}
use Rattle.cc_lanes.specs.Spreading.{IsSpread}
use Rattle.cc_lanes.proofs.Listing.{filter_only, filter_new, map_only, map_new}
use Rattle.cc_lanes.specs.Connections.{pair_of}
use Rattle.cc_listing_shared.specs.Cutting.{cuts, IsCutBy, AreWipes}

abbrev pair : ℕ → ℕ → Pair
pair i j = (i, j)

pair_is : (q : Pair) (i j : ℕ) → q.0 ≡ i → q.1 ≡ j → ◌≡◌ {A = Pair} q (i, j)
pair_is q i j e f = ap (λ n. pair n q.1) e ∙ ap (λ n. pair i n) f

module _ (T : Tables) (lanes : Lanes) (w : Whose) where
  -- the pairs of the accesses that end stretches
  pub cut_by : (accesses kept : List Access) (touches touches' : List Touch) (pairs : List Pair) → kept ≡ filter (cuts T) accesses → ((x : Touch) → Contains touches x ↔ Each kept (IsSpread T lanes w) x) → touches' ≡ touches → pairs ≡ map pair_of touches' →
      (p : Pair) → Contains pairs p ↔ IsCutBy T lanes w accesses p
  cut_by accesses kept touches touches' pairs e_kept exact e_touches e_pairs p = (
    λ is. (let m = map_only pair_of touches p (subst (λ (xs : List Pair). Contains xs p) (e_pairs ∙ ap (map pair_of) e_touches) is) in
        let x = (exact m.0).0 m.1 in
        let f = filter_only (cuts T) accesses x.0 (subst (λ (xs : List Access). Contains xs x.0) e_kept x.1) in
        (x.0, f.0, f.1, (m.0, x.2, m.2))),
    λ c. (let f = filter_new (cuts T) accesses c.0 c.1 c.2 in
        let t = (exact c.3.0).1 (c.0, subst (λ (xs : List Access). Contains xs c.0) (sym e_kept) f, c.3.1) in
        let m = map_new pair_of touches c.3.0 t in
        subst (λ (xs : List Pair). Contains xs p) (sym (e_pairs ∙ ap (map pair_of) e_touches)) (subst (Contains (map pair_of touches)) c.3.2 m)),
  )

pub wipes_ok : (T : Tables) (lanes : Lanes) (points : ℕ) (writes reads : List Access) (a b both both' : List Pair) (r : Result (Vec (List ℕ) Global) Memory) → both ≡ a ++ b → both' ≡ both →
    ((p : Pair) → Contains a p ↔ IsCutBy T lanes whose.All writes p) → ((p : Pair) → Contains b p ↔ IsCutBy T lanes whose.Own reads p) →
    IfOk r (λ rows. length rows.items ≡ points) → IfOk r (λ rows. Holds rows.items both') → IfOk r (λ rows. AreWipes T lanes points writes reads rows.items)
wipes_ok T lanes points writes reads a b both both' (Ok rows) e_both e_slice of_a of_b long holds = λ p k. (
  λ is. (let w = (holds p k).0 is in
      let c = subst (λ (xs : List Pair). Contains xs w.1.0) (e_slice ∙ e_both) w.1.1 in (
        omega (arith, w.0, long),
        ⊎_elim
            (λ x. inl (subst (IsCutBy T lanes whose.All writes) (pair_is w.1.0 p k w.1.2 w.1.3) ((of_a w.1.0).0 x)))
            (λ x. inr (subst (IsCutBy T lanes whose.Own reads) (pair_is w.1.0 p k w.1.2 w.1.3) ((of_b w.1.0).0 x)))
            (Contains-append_cases a b w.1.0 c),
      )),
  λ w. (holds p k).1 (
    omega (arith, w.0, long),
    (
      (p, k),
      subst (λ (xs : List Pair). Contains xs (p, k)) (sym (e_slice ∙ e_both)) (⊎_elim
          (λ x. Contains-append_left a b (p, k) ((of_a (p, k)).1 x))
          (λ x. Contains-append_right a b (p, k) ((of_b (p, k)).1 x))
          w.1),
      refl,
      refl,
    ),
  ),
)
wipes_ok T lanes points writes reads a b both both' (Err e) e_both e_slice of_a of_b long holds = holds
