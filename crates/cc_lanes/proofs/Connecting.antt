-- What flows find in lanes is connected.
use Rattle.std.proofs.Common.{ℕ, ◌≡◌, ◌<◌, true, List, Some, length, refl, sym, ap, ◌∙◌, subst, arith}
use Rattle.std.specs.Prelude.{Contains, ◌↔◌, map, slice_get, Result, Ok, Err, IfOk}
use Rattle.std.specs.declared.vec.Vec.{Vec}
use Rattle.std.specs.declared.alloc.Global.{Global}
use Rattle.std.proofs.lemmas.Option.{slice_get_within}
use Rattle.cc_base.specs.declared.memory.Memory.{Memory}
use Rattle.cc_flows.specs.Sweeping.{Next, HasEdge}
use Rattle.cc_flows.specs.declared.mask.Touch.{Touch}
use Rattle.cc_flows.specs.declared.flow.Found.{Found}
use Rattle.cc_flows.specs.Masks.{row_of}
use Rattle.cc_flows.specs.Flows.{ClearStretch, Reaches}
use Rattle.cc_flows.specs.Flows as flows
use Rattle.cc_rows.specs.Gains.{Each}
use Rattle.cc_rows.proofs.Gained.{place}
use Rattle.cc_listed.specs.declared.table.Access.{Access}
use Rattle.cc_listed.specs.declared.table.Tables.{Tables}
use Rattle.cc_listed.specs.Stretches.{Stretch, First, On, IsAt}
use Rattle.cc_lanes.specs.declared.lane.Lanes.{Lanes}
use Rattle.cc_lanes.specs.declared.laid.Whose.TheVariants as whose
use Rattle.cc_lanes.specs.Rows.{Pair, Holds}
use Rattle.cc_lanes.specs.Lanes.{AreLanes}
use Rattle.cc_lanes.specs.Spreading.{object_in, touch_of, IsSpread}
use Rattle.cc_lanes.specs.Connections.{plain_lane, pair_of, AreCuts, IsConnected}
use Rattle.cc_lanes.proofs.Listing.{map_new, map_only}
use Rattle.cc_lanes.proofs.Spreads.{get_some, InLane, in_lane, from_lane}

abbrev pair : ℕ → ℕ → Pair
pair a b = (a, b)

pair_is : (q : Pair) (i j : ℕ) → q.0 ≡ i → q.1 ≡ j → ◌≡◌ {A = Pair} q (i, j)
pair_is q i j e f = ap (λ n. pair n q.1) e ∙ ap (λ n. pair i n) f

abbrev the_found : ℕ → ℕ → ℕ → Found
the_found a b c = record { definition = a; reader = b; object = c }

pub found_is : (a b c : ℕ) (x : Found) → a ≡ x.definition → b ≡ x.reader → c ≡ x.object → ◌≡◌ {A = Found} (record { definition = a; reader = b; object = c }) x
found_is a b c x d r o = ap (λ n. the_found n b c) d ∙ ap (λ n. the_found x.definition n c) r ∙ ap (λ n. the_found x.definition x.reader n) o

-- the rows of the cutters
pub cuts_ok : (T : Tables) (lanes : Lanes) (points : ℕ) (cutters : List Access) (touches touches' : List Touch) (pairs pairs' : List Pair) (r : Result (Vec (List ℕ) Global) Memory) →
    ((x : Touch) → Contains touches x ↔ Each cutters (IsSpread T lanes whose.All) x) → touches' ≡ touches → pairs ≡ map pair_of touches' → pairs' ≡ pairs →
    IfOk r (λ rows. length rows.items ≡ points) → IfOk r (λ rows. Holds rows.items pairs') → IfOk r (λ rows. AreCuts T lanes points cutters rows.items)
cuts_ok T lanes points cutters touches touches' pairs pairs' (Ok rows) exact e_touches e_pairs e_slice long holds = λ p k. (
  λ is. (let w = (holds p k).0 is in
      let m = map_only pair_of touches w.1.0 (subst (λ (xs : List Pair). Contains xs w.1.0) (e_slice ∙ e_pairs ∙ ap (map pair_of) e_touches) w.1.1) in
      let x = (exact m.0).0 m.1 in
      (omega (arith, w.0, long), (x.0, x.1, (m.0, x.2, m.2 ∙ pair_is w.1.0 p k w.1.2 w.1.3)))),
  λ w. (let t = (exact w.1.2.0).1 (w.1.0, w.1.1, w.1.2.1) in
      let m = subst (λ (q : Pair). Contains (map pair_of touches) q) w.1.2.2 (map_new pair_of touches w.1.2.0 t) in
      (holds p k).1 (omega (arith, w.0, long), ((p, k), subst (λ (xs : List Pair). Contains xs (p, k)) (sym (e_slice ∙ e_pairs ∙ ap (map pair_of) e_touches)) m, refl, refl))),
)
cuts_ok T lanes points cutters touches touches' pairs pairs' (Err e) exact e_touches e_pairs e_slice long holds = holds

module _ (next : Next) (T : Tables) (lanes : Lanes) (cutters starts targets : List Access) (wipes : List (List ℕ)) (begins ends : List Touch)
    (are : AreLanes T (map plain_lane targets) lanes) (are_cuts : AreCuts T lanes (length next) cutters wipes)
    (are_begins : (x : Touch) → Contains begins x ↔ Each starts (IsSpread T lanes whose.All) x)
    (are_ends : (x : Touch) → Contains ends x ↔ Each targets (IsSpread T lanes whose.All) x) where
  inside : (a b : ℕ) → HasEdge next a b → a < length next
  inside a b edge = slice_get_within next a edge.row edge.at

  module _ (k : ℕ) (lane : Pair) (at : slice_get lanes.pairs.items k ≡ Some lane) where
    to_cut : (a : ℕ) → Contains (row_of wipes a) k → IsAt (Contains cutters) lane.0 a
    to_cut a is =
        let c = ((are_cuts a k).0 is).1 in
        let l = in_lane T (map plain_lane targets) lanes are whose.All c.0 c.2.0 c.2.1 in
        let number : l.number ≡ k = ap (λ (t : Touch). t.slot) l.is ∙ ap (λ (p : Pair). p.1) c.2.2 in
        let point : c.0.point ≡ a = ap (λ (t : Touch). t.point) l.is ∙ ap (λ (p : Pair). p.0) c.2.2 in
        let same : l.lane ≡ lane = (let p = l.at in let q = at in let e = ap (slice_get lanes.pairs.items) number in cc) in
        (c.0, c.1, sym l.same_slot ∙ ap (λ (p : Pair). p.0) same, point)

    from_cut : (a : ℕ) → lane.0 < length T.slots → a < length next → IsAt (Contains cutters) lane.0 a → Contains (row_of wipes a) k
    from_cut a short lt x = (are_cuts a k).1 (
      lt,
      (
        x.0,
        x.1,
        (
          touch_of T x.0 k,
          from_lane T (map plain_lane targets) lanes are whose.All x.0 k lane at (sym x.2) (subst (λ n. n < length T.slots) (sym x.2) short) refl,
          ap (λ n. pair n k) x.3,
        ),
      ),
    )

    to_path : (from to : ℕ) → lane.0 < length T.slots → ClearStretch next wipes k from to → Stretch next (IsAt (Contains cutters) lane.0) from to
    to_path from to short (flows.First edge) = First edge
    to_path from to short (flows.On {a = a} p never edge) = On (to_path from a short p) (λ x. never (from_cut a short (inside a to edge) x)) edge

    from_path : (from to : ℕ) → Stretch next (IsAt (Contains cutters) lane.0) from to → ClearStretch next wipes k from to
    from_path from to (First edge) = flows.First edge
    from_path from to (On {a = a} p never edge) = flows.On (from_path from a p) (λ is. never (to_cut a is)) edge

  pub to_connected : (f : Found) → Reaches next wipes ends begins f → IsConnected next T cutters starts targets f
  to_connected f h =
      let s = (are_begins h.definition).0 h.defines in
      let t = (are_ends h.read).0 h.is_read in
      let d = in_lane T (map plain_lane targets) lanes are whose.All s.0 h.definition s.2 in
      let u = in_lane T (map plain_lane targets) lanes are whose.All t.0 h.read t.2 in
      let k = d.number in
      let same_number : u.number ≡ k = ap (λ (x : Touch). x.slot) u.is ∙ h.same_slot ∙ sym (ap (λ (x : Touch). x.slot) d.is) in
      let same_lane : u.lane ≡ d.lane = (let p = u.at in let q = d.at in let e = ap (slice_get lanes.pairs.items) same_number in cc) in
      let slot = get_some T.slots s.0.slot d.within in
      let short : d.lane.0 < length T.slots = subst (λ n. n < length T.slots) (sym d.same_slot) d.within in
      let path = to_path k d.lane d.at h.definition.point h.read.point short (subst (λ n. ClearStretch next wipes n h.definition.point h.read.point) (sym (ap (λ (x : Touch). x.slot) d.is)) h.stretch) in
      record {
        start = s.0;
        target = t.0;
        slot = slot.0;
        begins = s.1;
        ends = t.1;
        same_slot = sym u.same_slot ∙ ap (λ (p : Pair). p.0) same_lane ∙ d.same_slot;
        at = slot.1;
        is_start = ap (λ (x : Touch). x.node) d.is ∙ ap (λ (x : Found). x.definition) h.is;
        is_target = ap (λ (x : Touch). x.node) u.is ∙ ap (λ (x : Found). x.reader) h.is;
        is_object = sym (ap object_in slot.1) ∙ ap (λ (x : Touch). x.object) d.is ∙ ap (λ (x : Found). x.object) h.is;
        path = subst (λ p. Stretch next (IsAt (Contains cutters) s.0.slot) p t.0.point) (sym (ap (λ (x : Touch). x.point) d.is))
            (subst (λ p. Stretch next (IsAt (Contains cutters) s.0.slot) h.definition.point p) (sym (ap (λ (x : Touch). x.point) u.is))
            (subst (λ n. Stretch next (IsAt (Contains cutters) n) h.definition.point h.read.point) d.same_slot path));
      }

  pub from_connected : (f : Found) → IsConnected next T cutters starts targets f → Reaches next wipes ends begins f
  from_connected f r =
      let has = are.has (plain_lane r.target) (map_new plain_lane targets r.target r.ends) in
      let k = has.0 in
      let lane = plain_lane r.target in
      let at = place lanes.pairs.items lane has in
      let short : r.start.slot < length T.slots = slice_get_within T.slots r.start.slot r.slot r.at in
      let start = from_lane T (map plain_lane targets) lanes are whose.All r.start k lane at r.same_slot short refl in
      let target = from_lane T (map plain_lane targets) lanes are whose.All r.target k lane at refl (subst (λ n. n < length T.slots) (sym r.same_slot) short) refl in
      record {
        definition = touch_of T r.start k;
        read = touch_of T r.target k;
        defines = (are_begins (touch_of T r.start k)).1 (r.start, r.begins, start);
        is_read = (are_ends (touch_of T r.target k)).1 (r.target, r.ends, target);
        same_slot = refl;
        stretch = from_path k lane at r.start.point r.target.point
            (subst (λ n. Stretch next (IsAt (Contains cutters) n) r.start.point r.target.point) (sym r.same_slot) r.path);
        is = found_is r.start.occurrence r.target.occurrence (object_in (slice_get T.slots r.start.slot)) f r.is_start r.is_target (ap object_in r.at ∙ r.is_object);
      }

-- the starts are points and lanes
pub begins_within : (T : Tables) (pairs : List Pair) (lanes : Lanes) (starts : List Access) (begins : List Touch) (points : ℕ) → AreLanes T pairs lanes → ((x : Touch) → Contains begins x ↔ Each starts (IsSpread T lanes whose.All) x) → ((a : Access) → Contains starts a → a.point < points) →
    (x : Touch) → Contains begins x → (x.slot < length lanes.pairs.items) × (x.point < points)
begins_within T pairs lanes starts begins points are exact within x is =
    let s = (exact x).0 is in
    let l = in_lane T pairs lanes are whose.All s.0 x s.2 in (
      subst (λ n. n < length lanes.pairs.items) (ap (λ (t : Touch). t.slot) l.is) (slice_get_within lanes.pairs.items l.number l.lane l.at),
      subst (λ n. n < points) (ap (λ (t : Touch). t.point) l.is) (within s.0 s.1),
    )
