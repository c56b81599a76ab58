-- What is connected, by the kind of its slot.
use Rattle.std.proofs.Common.{ℕ, ◌≡◌, ◌<◌, ◌⊎◌, inl, inr, ⊎_elim, Bool, true, false, List, [], Option, Some, None, length, refl, sym, ap, ◌∙◌, subst}
use Rattle.std.specs.Prelude.{Contains, ◌↔◌, filter, slice_get}
use Rattle.cc_flows.specs.Sweeping.{Next}
use Rattle.cc_flows.specs.declared.flow.Found.{Found}
use Rattle.cc_rows.specs.Gains.{Gains}
use Rattle.cc_listed.specs.declared.table.Access.{Access}
use Rattle.cc_listed.specs.declared.table.Kind.{Kind}
use Rattle.cc_listed.specs.declared.table.Kind.TheVariants as kind
use Rattle.cc_listed.specs.declared.table.Slot.{Slot}
use Rattle.cc_listed.specs.declared.table.Tables.{Tables}
use Rattle.cc_listed.specs.Tabled.{across_in, across_kind}
use Rattle.cc_listed.specs.Stretches.{Stretch, IsAt}
use Rattle.cc_lanes.specs.Connections.{IsConnected}
use Rattle.cc_lanes.specs.Picking.{crosses, stays, inside_in, inside_kind}
use Rattle.cc_lanes.specs.Joins.{PathBy, IsJoined}
use Rattle.cc_lanes.proofs.Listing.{none, filter_only, filter_new}

module _ (next within : Next) (T : Tables) (inner outer starts targets : List Access) where
  of_inside : (k : Kind) (s from to : ℕ) → inside_kind k ≡ true → Stretch within (IsAt (Contains inner) s) from to → PathBy next within inner outer k s from to
  of_inside kind.Inside s from to e p = p
  of_inside kind.Named s from to e p = absurd (let h = e in cc)
  of_inside kind.Open s from to e p = absurd (let h = e in cc)

  of_across : (k : Kind) (s from to : ℕ) → across_kind k ≡ true → Stretch next (IsAt (Contains outer) s) from to → PathBy next within inner outer k s from to
  of_across kind.Inside s from to e p = absurd (let h = e in cc)
  of_across kind.Named s from to e p = p
  of_across kind.Open s from to e p = p

  inside_joined : (f : Found) → IsConnected within T inner (filter (stays T) starts) targets f → IsJoined next within T inner outer starts targets f
  inside_joined f c =
      let h = filter_only (stays T) starts c.start c.begins in
      record {
        start = c.start;
        target = c.target;
        slot = c.slot;
        begins = h.0;
        ends = c.ends;
        same_slot = c.same_slot;
        at = c.at;
        is_start = c.is_start;
        is_target = c.is_target;
        is_object = c.is_object;
        path = of_inside c.slot.kind c.start.slot c.start.point c.target.point (sym (ap inside_in c.at) ∙ h.1) c.path;
      }

  across_joined : (f : Found) → IsConnected next T outer (filter (crosses T) starts) targets f → IsJoined next within T inner outer starts targets f
  across_joined f c =
      let h = filter_only (crosses T) starts c.start c.begins in
      record {
        start = c.start;
        target = c.target;
        slot = c.slot;
        begins = h.0;
        ends = c.ends;
        same_slot = c.same_slot;
        at = c.at;
        is_start = c.is_start;
        is_target = c.is_target;
        is_object = c.is_object;
        path = of_across c.slot.kind c.start.slot c.start.point c.target.point (sym (ap across_in c.at) ∙ h.1) c.path;
      }

  module _ (f : Found) (j : IsJoined next within T inner outer starts targets f) where
    inside_of : inside_kind j.slot.kind ≡ true → Stretch within (IsAt (Contains inner) j.start.slot) j.start.point j.target.point → IsConnected within T inner (filter (stays T) starts) targets f
    inside_of e p = record {
      start = j.start;
      target = j.target;
      slot = j.slot;
      begins = filter_new (stays T) starts j.start j.begins (ap inside_in j.at ∙ e);
      ends = j.ends;
      same_slot = j.same_slot;
      at = j.at;
      is_start = j.is_start;
      is_target = j.is_target;
      is_object = j.is_object;
      path = p;
    }

    across_of : across_kind j.slot.kind ≡ true → Stretch next (IsAt (Contains outer) j.start.slot) j.start.point j.target.point → IsConnected next T outer (filter (crosses T) starts) targets f
    across_of e p = record {
      start = j.start;
      target = j.target;
      slot = j.slot;
      begins = filter_new (crosses T) starts j.start j.begins (ap across_in j.at ∙ e);
      ends = j.ends;
      same_slot = j.same_slot;
      at = j.at;
      is_start = j.is_start;
      is_target = j.is_target;
      is_object = j.is_object;
      path = p;
    }

    by_kind : (k : Kind) → j.slot.kind ≡ k → PathBy next within inner outer k j.start.slot j.start.point j.target.point →
        IsConnected within T inner (filter (stays T) starts) targets f ⊎ IsConnected next T outer (filter (crosses T) starts) targets f
    by_kind kind.Inside e p = inl (inside_of (ap inside_kind e) p)
    by_kind kind.Named e p = inr (across_of (ap across_kind e) p)
    by_kind kind.Open e p = inr (across_of (ap across_kind e) p)

  pub joined : (held held' free free' : List Access) (a b c : List Found) → held ≡ filter (stays T) starts → held' ≡ held → free ≡ filter (crosses T) starts → free' ≡ free → a ≡ [] →
      Gains a b (IsConnected within T inner held' targets) → Gains b c (IsConnected next T outer free' targets) → (f : Found) → Contains c f ↔ IsJoined next within T inner outer starts targets f
  joined held held' free free' a b c e_held e_held' e_free e_free' e g h f = (
    λ is. ⊎_elim
        (λ old. ⊎_elim
        (λ nothing. absurd (none f (subst (λ (xs : List Found). Contains xs f) e nothing)))
        (λ x. inside_joined f (subst (λ (xs : List Access). IsConnected within T inner xs targets f) (e_held' ∙ e_held) x))
        ((g f).0 old))
        (λ x. across_joined f (subst (λ (xs : List Access). IsConnected next T outer xs targets f) (e_free' ∙ e_free) x))
        ((h f).0 is),
    λ j. ⊎_elim
        (λ x. (h f).1 (inl ((g f).1 (inr (subst (λ (xs : List Access). IsConnected within T inner xs targets f) (sym (e_held' ∙ e_held)) x)))))
        (λ x. (h f).1 (inr (subst (λ (xs : List Access). IsConnected next T outer xs targets f) (sym (e_free' ∙ e_free)) x)))
        (by_kind f j j.slot.kind refl j.path),
  )

pub picked_within : (test : Access → Bool) (starts picked : List Access) (points : ℕ) → picked ≡ filter test starts → ((a : Access) → Contains starts a → a.point < points) → (a : Access) → Contains picked a → a.point < points
picked_within test starts picked points e within a is = within a (filter_only test starts a (subst (λ (xs : List Access). Contains xs a) e is)).0
