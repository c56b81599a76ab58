-- What flows find in lanes are rows.
use Rattle.std.proofs.Common.{ℕ, zero, suc, ◌≡◌, ◌<◌, ◌⊎◌, inl, inr, ⊎_elim, Bool, true, false, List, [], ◌∷◌, Some, length, refl, sym, ap, ◌∙◌, subst, arith}
use Rattle.std.specs.Prelude.{Contains, ◌↔◌, map, not, nat_eq, slice_get}
use Rattle.cc_lanes.proofs.Listing.{map_new}
use Rattle.std.proofs.lemmas.Option.{slice_get_within}
use Rattle.cc_flows.specs.Sweeping.{Next, HasEdge}
use Rattle.cc_flows.specs.declared.mask.Touch.{Touch}
use Rattle.cc_flows.specs.declared.flow.Found.{Found}
use Rattle.cc_flows.specs.Masks.{row_of}
use Rattle.cc_flows.specs.Flows.{ClearStretch, Reaches, found_of}
use Rattle.cc_flows.specs.Flows as flows
use Rattle.cc_rows.specs.Gains.{Each}
use Rattle.cc_rows.proofs.Gained.{place}
use Rattle.cc_listed.specs.declared.table.Access.{Access}
use Rattle.cc_listed.specs.declared.table.Slot.{Slot}
use Rattle.cc_listed.specs.declared.table.Tables.{Tables}
use Rattle.cc_listed.specs.Tabled.{component_of}
use Rattle.cc_listed.specs.Stretches.{Stretch, First, On}
use Rattle.cc_lanes.specs.declared.lane.Lanes.{Lanes}
use Rattle.cc_lanes.specs.declared.laid.Whose.{Whose}
use Rattle.cc_lanes.specs.declared.laid.Whose.TheVariants as whose
use Rattle.cc_lanes.specs.Rows.{Pair}
use Rattle.cc_lanes.specs.Lanes.{lane_of, AreLanes}
use Rattle.cc_lanes.specs.Spreading.{goes, object_in, touch_of, IsSpread}
use Rattle.cc_lanes.proofs.Spreads.{get_some, goes_own, goes_others, own_goes, others_go, InLane, in_lane, from_lane}
use Rattle.cc_listing_shared.specs.Cutting.{cuts, IsCutBy, AreWipes}
use Rattle.cc_listing_shared.specs.SharedRows.{IsCut, IsRow}

abbrev pair : ℕ → ℕ → Pair
pair a b = (a, b)

abbrev the_found : ℕ → ℕ → ℕ → Found
the_found a b c = record { definition = a; reader = b; object = c }

found_is : (a b c : ℕ) (x : Found) → a ≡ x.definition → b ≡ x.reader → c ≡ x.object → ◌≡◌ {A = Found} (record { definition = a; reader = b; object = c }) x
found_is a b c x d r o = ap (λ n. the_found n b c) d ∙ ap (λ n. the_found x.definition n c) r ∙ ap (λ n. the_found x.definition x.reader n) o

module _ (next : Next) (T : Tables) (lanes : Lanes) (writes reads among live : List Access) (wipes : List (List ℕ)) (starts targets : List Touch)
    (are : AreLanes T (map (lane_of T) among) lanes) (are_wipes : AreWipes T lanes (length next) writes reads wipes)
    (are_starts : (x : Touch) → Contains starts x ↔ Each live (IsSpread T lanes whose.Others) x)
    (are_targets : (x : Touch) → Contains targets x ↔ Each among (IsSpread T lanes whose.Own) x) where
  inside : (a b : ℕ) → HasEdge next a b → a < length next
  inside a b edge = slice_get_within next a edge.row edge.at

  module _ (k : ℕ) (lane : Pair) (at : slice_get lanes.pairs.items k ≡ Some lane) where
    cut_of : (w : Whose) (accesses : List Access) (a : ℕ) → IsCutBy T lanes w accesses (a, k) → (r : Access) × Contains accesses r × (cuts T r ≡ true) × (r.slot ≡ lane.0) × (r.point ≡ a) × (goes w (component_of T r.occurrence) lane.1 ≡ true)
    cut_of w accesses a c =
        let l = in_lane T (map (lane_of T) among) lanes are w c.0 c.3.0 c.3.1 in
        let number : l.number ≡ k = ap (λ (t : Touch). t.slot) l.is ∙ ap (λ (p : Pair). p.1) c.3.2 in
        let point : c.0.point ≡ a = ap (λ (t : Touch). t.point) l.is ∙ ap (λ (p : Pair). p.0) c.3.2 in
        let same : l.lane ≡ lane = (let p = l.at in let q = at in let e = ap (slice_get lanes.pairs.items) number in cc) in
        (c.0, c.1, c.2, sym l.same_slot ∙ ap (λ (p : Pair). p.0) same, point, subst (λ (p : Pair). goes w (component_of T c.0.occurrence) p.1 ≡ true) same l.into)

    to_cut : (a : ℕ) → Contains (row_of wipes a) k → IsCut T writes reads lane.1 lane.0 a
    to_cut a is = ⊎_elim
        (λ c. let r = cut_of whose.All writes a c in (r.0, (r.2, inl r.1), r.3, r.4))
        (λ c. let r = cut_of whose.Own reads a c in (r.0, (r.2, inr (r.1, goes_own (component_of T r.0.occurrence) lane.1 r.5)), r.3, r.4))
        ((are_wipes a k).0 is).1

    from_cut : (a : ℕ) → lane.0 < length T.slots → a < length next → IsCut T writes reads lane.1 lane.0 a → Contains (row_of wipes a) k
    from_cut a short lt x = (are_wipes a k).1 (
      lt,
      ⊎_elim
          (λ w. inl (x.0, w, x.1.0, (touch_of T x.0 k, from_lane T (map (lane_of T) among) lanes are whose.All x.0 k lane at (sym x.2) (subst (λ n. n < length T.slots) (sym x.2) short) refl, here x.0 x.3)))
          (λ r. inr (x.0, r.0, x.1.0, (touch_of T x.0 k, from_lane T (map (lane_of T) among) lanes are whose.Own x.0 k lane at (sym x.2) (subst (λ n. n < length T.slots) (sym x.2) short) (own_goes (component_of T x.0.occurrence) lane.1 r.1), here x.0 x.3)))
          x.1.1,
    )
      where
        here : (r : Access) → r.point ≡ a → ◌≡◌ {A = Pair} (r.point, k) (a, k)
        here r e = ap (λ n. pair n k) e

    to_stretch : (from to : ℕ) → lane.0 < length T.slots → ClearStretch next wipes k from to → Stretch next (IsCut T writes reads lane.1 lane.0) from to
    to_stretch from to short (flows.First edge) = First edge
    to_stretch from to short (flows.On {a = a} p never edge) = On (to_stretch from a short p) (λ x. never (from_cut a short (inside a to edge) x)) edge

    from_stretch : (from to : ℕ) → Stretch next (IsCut T writes reads lane.1 lane.0) from to → ClearStretch next wipes k from to
    from_stretch from to (First edge) = flows.First edge
    from_stretch from to (On {a = a} p never edge) = flows.On (from_stretch from a p) (λ is. never (to_cut a is)) edge

  pub to_row : (f : Found) → Reaches next wipes targets starts f → IsRow next T writes reads live among f
  to_row f h =
      let s = (are_starts h.definition).0 h.defines in
      let t = (are_targets h.read).0 h.is_read in
      let d = in_lane T (map (lane_of T) among) lanes are whose.Others s.0 h.definition s.2 in
      let u = in_lane T (map (lane_of T) among) lanes are whose.Own t.0 h.read t.2 in
      let k = d.number in
      let same_number : u.number ≡ k = ap (λ (x : Touch). x.slot) u.is ∙ h.same_slot ∙ sym (ap (λ (x : Touch). x.slot) d.is) in
      let same_lane : u.lane ≡ d.lane = (let p = u.at in let q = d.at in let e = ap (slice_get lanes.pairs.items) same_number in cc) in
      let slot = get_some T.slots s.0.slot d.within in
      let is_definition : s.0.occurrence ≡ f.definition = ap (λ (x : Touch). x.node) d.is ∙ ap (λ (x : Found). x.definition) h.is in
      let is_reader : t.0.occurrence ≡ f.reader = ap (λ (x : Touch). x.node) u.is ∙ ap (λ (x : Found). x.reader) h.is in
      let of_reader : d.lane.1 ≡ component_of T f.reader = sym (ap (λ (p : Pair). p.1) same_lane) ∙ sym (goes_own (component_of T t.0.occurrence) u.lane.1 u.into) ∙ ap (component_of T) is_reader in
      let short : d.lane.0 < length T.slots = subst (λ n. n < length T.slots) (sym d.same_slot) d.within in
      let path = to_stretch k d.lane d.at h.definition.point h.read.point short (subst (λ n. ClearStretch next wipes n h.definition.point h.read.point) (sym (ap (λ (x : Touch). x.slot) d.is)) h.stretch) in
      record {
        definition = s.0;
        read = t.0;
        slot = slot.0;
        defines = s.1;
        is_read = t.1;
        same_slot = sym u.same_slot ∙ ap (λ (p : Pair). p.0) same_lane ∙ d.same_slot;
        at = slot.1;
        is_definition = is_definition;
        is_reader = is_reader;
        is_object = sym (ap object_in slot.1) ∙ ap (λ (x : Touch). x.object) d.is ∙ ap (λ (x : Found). x.object) h.is;
        clear = subst (λ p. Stretch next (IsCut T writes reads (component_of T f.reader) s.0.slot) p t.0.point) (sym (ap (λ (x : Touch). x.point) d.is))
            (subst (λ p. Stretch next (IsCut T writes reads (component_of T f.reader) s.0.slot) h.definition.point p) (sym (ap (λ (x : Touch). x.point) u.is))
            (subst (λ c. Stretch next (IsCut T writes reads c s.0.slot) h.definition.point h.read.point) of_reader
            (subst (λ n. Stretch next (IsCut T writes reads d.lane.1 n) h.definition.point h.read.point) d.same_slot path)));
        differ = λ e. goes_others (component_of T s.0.occurrence) d.lane.1 d.into (ap (component_of T) is_definition ∙ e ∙ sym of_reader);
      }

  pub from_row : (f : Found) → IsRow next T writes reads live among f → Reaches next wipes targets starts f
  from_row f r =
      let has = are.has (lane_of T r.read) (map_new (lane_of T) among r.read r.is_read) in
      let k = has.0 in
      let lane = lane_of T r.read in
      let at = place lanes.pairs.items lane has in
      let short : r.definition.slot < length T.slots = slice_get_within T.slots r.definition.slot r.slot r.at in
      let of_reader : component_of T r.read.occurrence ≡ component_of T f.reader = ap (component_of T) r.is_reader in
      let start = from_lane T (map (lane_of T) among) lanes are whose.Others r.definition k lane at r.same_slot short
      (others_go (component_of T r.definition.occurrence) lane.1 (λ e. r.differ (ap (component_of T) (sym r.is_definition) ∙ e ∙ of_reader))) in
      let target = from_lane T (map (lane_of T) among) lanes are whose.Own r.read k lane at refl (subst (λ n. n < length T.slots) (sym r.same_slot) short) (own_goes (component_of T r.read.occurrence) lane.1 refl) in
      record {
        definition = touch_of T r.definition k;
        read = touch_of T r.read k;
        defines = (are_starts (touch_of T r.definition k)).1 (r.definition, r.defines, start);
        is_read = (are_targets (touch_of T r.read k)).1 (r.read, r.is_read, target);
        same_slot = refl;
        stretch = from_stretch k lane at r.definition.point r.read.point
            (subst (λ c. Stretch next (IsCut T writes reads c r.read.slot) r.definition.point r.read.point) (sym of_reader)
            (subst (λ n. Stretch next (IsCut T writes reads (component_of T f.reader) n) r.definition.point r.read.point) (sym r.same_slot) r.clear));
        is = found_is r.definition.occurrence r.read.occurrence (object_in (slice_get T.slots r.definition.slot)) f r.is_definition r.is_reader (ap object_in r.at ∙ r.is_object);
      }

-- the starts are points and lanes
pub starts_within : (T : Tables) (lanes : Lanes) (among live : List Access) (starts : List Touch) (points : ℕ) → AreLanes T (map (lane_of T) among) lanes → ((x : Touch) → Contains starts x ↔ Each live (IsSpread T lanes whose.Others) x) → ((a : Access) → Contains live a → a.point < points) →
    (x : Touch) → Contains starts x → (x.slot < length lanes.pairs.items) × (x.point < points)
starts_within T lanes among live starts points are exact within x is =
    let s = (exact x).0 is in
    let l = in_lane T (map (lane_of T) among) lanes are whose.Others s.0 x s.2 in (
      subst (λ n. n < length lanes.pairs.items) (ap (λ (t : Touch). t.slot) l.is) (slice_get_within lanes.pairs.items l.number l.lane l.at),
      subst (λ n. n < points) (ap (λ (t : Touch). t.point) l.is) (within s.0 s.1),
    )
