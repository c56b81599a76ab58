-- The rows are the listed ones.
use Rattle.std.proofs.Common.{ℕ, ◌≡◌, ◌<◌, ◌⊎◌, inl, inr, ⊎_elim, Bool, true, false, ◌&&◌, List, [], ◌++◌, Some, length, refl, sym, ap, ◌∙◌, subst}
use Rattle.std.specs.Prelude.{Contains, ◌↔◌, filter, slice_get, Result, Ok, Err, IfOk}
use Rattle.std.specs.declared.vec.Vec.{Vec}
use Rattle.std.specs.declared.alloc.Global.{Global}
use Rattle.cc_rows.specs.Gains.{Gains, Or}
use Rattle.cc_rows.specs.Limits.{HasMore}
use Rattle.cc_rows.specs.declared.stop.Stop.{Stop}
use Rattle.cc_rows.proofs.Gained.{gains_all}
use Rattle.cc_flows.specs.Flows.{found_cmp}
use Rattle.std.proofs.lemmas.List.Elements.{Contains-append_left, Contains-append_right, Contains-append_cases}
use Rattle.cc_blocks.specs.declared.block.Block.{Block}
use Rattle.cc_flows.specs.Sweeping.{Next, StaysWithin}
use Rattle.cc_flows.specs.declared.flow.Found.{Found}
use Rattle.cc_listed.specs.declared.table.Access.{Access}
use Rattle.cc_listed.specs.declared.table.Slot.{Slot}
use Rattle.cc_listed.specs.declared.table.Kind.{Kind}
use Rattle.cc_listed.specs.declared.table.Kind.TheVariants as kind
use Rattle.cc_listed.specs.declared.table.Tables.{Tables}
use Rattle.cc_listed.specs.Tabled.{component_of, is_by_name, is_named, is_across, named_in, named_kind, across_in, across_kind}
use Rattle.cc_listed.specs.Stretches.{Steps, Accesses, accesses, steps, Stretch, First, On, Never, IsAt, UsesByName, IsReachable, IsClearFor}
use Rattle.cc_listed.specs.Listed.{IsShared, StayInside}
use Rattle.cc_lanes.proofs.Listing.{none, filter_only, filter_new}
use Rattle.cc_listing_shared.specs.Living.{is_live, is_reached, IsReach}
use Rattle.cc_lanes.specs.Picking.{crosses}
use Rattle.cc_listing_shared.specs.Cutting.{cuts}
use Rattle.cc_listing_shared.specs.SharedRows.{IsListed, AreListed, HasMoreListed, IsCut, IsRow}
use Rattle.cc_listing_shared.proofs.Truth.{and_true, true_and}
use Rattle.cc_listing_shared.proofs.Reaching.{reachable_within}

pub stretch_as : {next : Next} {Cut More : ℕ → Type 0} {from to : ℕ} → ((a : ℕ) → More a → Cut a) → Stretch next Cut from to → Stretch next More from to
stretch_as less (First edge) = First edge
stretch_as less (On {a = a} p never edge) = On (stretch_as less p) (λ x. never (less a x)) edge

-- definitions that were picked from two lists
pub live_both : (test : Access → Bool) (writes given a b out : List Access) → a ≡ filter test writes → b ≡ filter test given → out ≡ a ++ b → (x : Access) → Contains out x ↔ ((Contains writes x ⊎ Contains given x) × (test x ≡ true))
live_both test writes given a b out e_a e_b e x = (
  λ is. ⊎_elim
      (λ l. let h = filter_only test writes x (subst (λ (xs : List Access). Contains xs x) e_a l) in (inl h.0, h.1))
      (λ r. let h = filter_only test given x (subst (λ (xs : List Access). Contains xs x) e_b r) in (inr h.0, h.1))
      (Contains-append_cases a b x (subst (λ (xs : List Access). Contains xs x) e is)),
  λ w. subst (λ (xs : List Access). Contains xs x) (sym e) (⊎_elim
      (λ l. Contains-append_left a b x (subst (λ (xs : List Access). Contains xs x) (sym e_a) (filter_new test writes x l w.1)))
      (λ r. Contains-append_right a b x (subst (λ (xs : List Access). Contains xs x) (sym e_b) (filter_new test given x r w.1)))
      w.0),
)

pub live_within : (next : Next) (root : ℕ) (T : Tables) (reach : List Block) (a : Access) → StaysWithin next → root < length next → IsReach next root reach → is_live T root reach a ≡ true → a.point < length next
live_within next root T reach a stays lt is_reach live = reachable_within next root a.point stays lt ((is_reach a.point).0 (and_true (is_across T a.slot) (is_reached root reach a.point) live).1)

module _ (next within : Next) (root : ℕ) (T : Tables) (reach : List Block) (writes given passed reads among live : List Access)
    (is_reach : IsReach next root reach)
    (live_is : (a : Access) → Contains live a ↔ ((Contains writes a ⊎ Contains given a) × (is_live T root reach a ≡ true)))
    (among_is : among ≡ filter (crosses T) reads) where
  abbrev pub A : Accesses
  A = accesses writes given passed reads

  abbrev pub G : Steps
  G = steps next within root

  module _ (d : Access) (slot : Slot) (at : slice_get T.slots d.slot ≡ Some slot) (c : ℕ) where
    named_of : (k : Kind) → slot.kind ≡ k → is_named T d.slot ≡ named_kind k
    named_of k e = ap named_in at ∙ ap named_kind e

    across_of : (k : Kind) → slot.kind ≡ k → is_across T d.slot ≡ across_kind k
    across_of k e = ap across_in at ∙ ap across_kind e

    to_cut : slot.kind ≡ kind.Named → (a : ℕ) → IsAt (UsesByName T A c) d.slot a → IsCut T writes reads c d.slot a
    to_cut e a x = (x.0, (true_and (is_by_name T x.0.occurrence) (is_named T x.0.slot) x.1.0 (ap (is_named T) x.2 ∙ named_of kind.Named e), x.1.1), x.2, x.3)

    from_cut : (a : ℕ) → IsCut T writes reads c d.slot a → IsAt (UsesByName T A c) d.slot a
    from_cut a x = (x.0, ((and_true (is_by_name T x.0.occurrence) (is_named T x.0.slot) x.1.0).0, x.1.1), x.2, x.3)

    no_cut : slot.kind ≡ kind.Open → (a : ℕ) → IsCut T writes reads c d.slot a → ⊥
    no_cut e a x = let y = (and_true (is_by_name T x.0.occurrence) (is_named T x.0.slot) x.1.0).1 in let z = sym (ap (is_named T) x.2 ∙ named_of kind.Open e) ∙ y in cc

    to_clear : (k : Kind) (from to : ℕ) → slot.kind ≡ k → is_across T d.slot ≡ true → Stretch next (IsCut T writes reads c d.slot) from to → IsClearFor G T A k c d.slot from to
    to_clear kind.Named from to e across p = stretch_as (to_cut e) p
    to_clear kind.Open from to e across p = stretch_as (λ a never. absurd never) p
    to_clear kind.Inside from to e across p = absurd (let z = sym (across_of kind.Inside e) ∙ across in cc)

    from_clear : (k : Kind) (from to : ℕ) → slot.kind ≡ k → (k ≡ kind.Inside → ⊥) → IsClearFor G T A k c d.slot from to → Stretch next (IsCut T writes reads c d.slot) from to
    from_clear kind.Named from to e other p = stretch_as from_cut p
    from_clear kind.Open from to e other p = stretch_as (no_cut e) p
    from_clear kind.Inside from to e other p = absurd (other refl)

    is_across_of : (k : Kind) → slot.kind ≡ k → (k ≡ kind.Inside → ⊥) → is_across T d.slot ≡ true
    is_across_of kind.Named e other = across_of kind.Named e
    is_across_of kind.Open e other = across_of kind.Open e
    is_across_of kind.Inside e other = absurd (other refl)

  pub to_shared : (f : Found) → IsRow next T writes reads live among f → IsListed next within root T writes given passed reads f
  to_shared f r =
      let l = (live_is r.definition).0 r.defines in
      let t = and_true (is_across T r.definition.slot) (is_reached root reach r.definition.point) l.1 in
      record {
        definition = r.definition;
        read = r.read;
        slot = r.slot;
        defines = l.0;
        reads = (filter_only (crosses T) reads r.read (subst (λ (xs : List Access). Contains xs r.read) among_is r.is_read)).0;
        same_slot = r.same_slot;
        at = r.at;
        is_definition = r.is_definition;
        is_reader = r.is_reader;
        is_object = r.is_object;
        reachable = (is_reach r.definition.point).0 t.1;
        clear = to_clear r.definition r.slot r.at (component_of T f.reader) r.slot.kind r.definition.point r.read.point refl t.0 r.clear;
        differ = r.differ;
      }

  module _ (stay : StayInside T A) where
    pub from_shared : (f : Found) → IsListed next within root T writes given passed reads f → IsRow next T writes reads live among f
    from_shared f s =
        let c = component_of T f.reader in
        let other : s.slot.kind ≡ kind.Inside → ⊥ = λ e. s.differ (ap (component_of T) (sym s.is_definition) ∙ stay s.definition s.read s.slot s.defines s.reads s.same_slot s.at e ∙ ap (component_of T) s.is_reader) in
        let across = is_across_of s.definition s.slot s.at c s.slot.kind refl other in
        record {
          definition = s.definition;
          read = s.read;
          slot = s.slot;
          defines = (live_is s.definition).1 (s.defines, true_and (is_across T s.definition.slot) (is_reached root reach s.definition.point) across ((is_reach s.definition.point).1 s.reachable));
          is_read = subst (λ (xs : List Access). Contains xs s.read) (sym among_is) (filter_new (crosses T) reads s.read s.reads (ap (is_across T) s.same_slot ∙ across));
          same_slot = s.same_slot;
          at = s.at;
          is_definition = s.is_definition;
          is_reader = s.is_reader;
          is_object = s.is_object;
          clear = from_clear s.definition s.slot s.at c s.slot.kind s.definition.point s.read.point refl other s.clear;
          differ = s.differ;
        }

-- what was found is listed, and nothing else
module _ (next : Next) (root : ℕ) (T : Tables) (reach : List Block) (writes given passed reads among among' live live' : List Access)
    (is_reach : IsReach next root reach)
    (live_is : (a : Access) → Contains live a ↔ ((Contains writes a ⊎ Contains given a) × (is_live T root reach a ≡ true)))
    (among_is : among ≡ filter (crosses T) reads) (e_live : live' ≡ live) (e_among : among' ≡ among) where
  to_listed : (within : Next) (f : Found) → IsRow next T writes reads live' among' f → IsListed next within root T writes given passed reads f
  to_listed within f r = to_shared next within root T reach writes given passed reads among live is_reach live_is among_is f
      (subst (λ (xs : List Access). IsRow next T writes reads live xs f) e_among (subst (λ (xs : List Access). IsRow next T writes reads xs among' f) e_live r))

  from_listed : (within : Next) → StayInside T (accesses writes given passed reads) → (f : Found) → IsListed next within root T writes given passed reads f → IsRow next T writes reads live' among' f
  from_listed within stay f s = subst (λ (xs : List Access). IsRow next T writes reads xs among' f) (sym e_live)
      (subst (λ (xs : List Access). IsRow next T writes reads live xs f) (sym e_among) (from_shared next within root T reach writes given passed reads among live is_reach live_is among_is stay f s))

  pub listed_all : (before rows : List Found) → before ≡ [] → Gains before rows (IsRow next T writes reads live' among') → AreListed next root T writes given passed reads rows
  listed_all before rows e g within stay f =
      let exact = gains_all before rows (IsRow next T writes reads live' among') e g f in
      (λ is. to_listed within f (exact.0 is), λ s. exact.1 (from_listed within stay f s))

  pub more_listed : (before : List Found) (most : ℕ) → before ≡ [] → HasMore found_cmp (Or before (IsRow next T writes reads live' among')) most → HasMoreListed next root T writes given passed reads most
  more_listed before most e h within stay = (
    h.0,
    h.1,
    h.2,
    λ f is. ⊎_elim
        (λ old. absurd (none f (subst (λ (xs : List Found). Contains xs f) e old)))
        (λ r. to_listed within f r)
        (h.3 f is),
  )

pub more_of : (next : Next) (root : ℕ) (T : Tables) (writes given passed reads : List Access) (rows : List Found) (most : ℕ) → AreListed next root T writes given passed reads rows → HasMore found_cmp (Contains rows) most → HasMoreListed next root T writes given passed reads most
more_of next root T writes given passed reads rows most listed h within stay = (h.0, h.1, h.2, λ f is. (listed within stay f).0 (h.3 f is))

-- the same rows in another order
pub if_listed : (next : Next) (root : ℕ) (T : Tables) (writes given passed reads : List Access) (rows : List Found) (r : Result (Vec Found Global) Stop) → IfOk r (λ out. (x : Found) → Contains out.items x ↔ Contains rows x) → AreListed next root T writes given passed reads rows →
    IfOk r (λ out. AreListed next root T writes given passed reads out.items)
if_listed next root T writes given passed reads rows (Ok out) same listed = λ within stay f. (λ is. (listed within stay f).0 ((same f).0 is), λ x. (same f).1 ((listed within stay f).1 x))
if_listed next root T writes given passed reads rows (Err e) same listed = same

pub picked_within : (next : Next) (root : ℕ) (T : Tables) (reach : List Block) (writes given live live' : List Access) → StaysWithin next → root < length next → IsReach next root reach → live' ≡ live →
    ((a : Access) → Contains live a ↔ ((Contains writes a ⊎ Contains given a) × (is_live T root reach a ≡ true))) → (a : Access) → Contains live' a → a.point < length next
picked_within next root T reach writes given live live' stays lt is_reach e live_is a is =
    live_within next root T reach a stays lt is_reach ((live_is a).0 (subst (λ (xs : List Access). Contains xs a) e is)).1
