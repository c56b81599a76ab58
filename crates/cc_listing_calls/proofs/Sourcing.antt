-- The definitions that reach named reads.
use Rattle.std.proofs.Common.{ℕ, ◌≡◌, ◌<◌, ◌⊎◌, inl, inr, ⊎_elim, true, ◌&&◌, List, [], ◌++◌, Some, length, refl, sym, ap, ◌∙◌, subst}
use Rattle.std.specs.Prelude.{Contains, ◌↔◌, filter, slice_get, Result, Ok, Err, IfOk}
use Rattle.std.specs.declared.vec.Vec.{Vec}
use Rattle.std.specs.declared.alloc.Global.{Global}
use Rattle.std.proofs.lemmas.List.Elements.{Contains-append_left, Contains-append_right, Contains-append_cases}
use Rattle.cc_base.specs.declared.memory.Memory.{Memory}
use Rattle.cc_blocks.specs.declared.block.Block.{Block}
use Rattle.cc_flows.specs.Sweeping.{Next, StaysWithin}
use Rattle.cc_flows.specs.declared.flow.Found.{Found}
use Rattle.cc_listed.specs.declared.table.Access.{Access}
use Rattle.cc_listed.specs.declared.table.Slot.{Slot}
use Rattle.cc_listed.specs.declared.table.Kind.{Kind}
use Rattle.cc_listed.specs.declared.table.Kind.TheVariants as kind
use Rattle.cc_listed.specs.declared.table.Tables.{Tables}
use Rattle.cc_listed.specs.Tabled.{is_by_name, is_named, named_in, named_kind}
use Rattle.cc_listed.specs.Stretches.{Stretch, Never, IsAt, Accesses, accesses, Steps, steps, DefinesAny, WritesByName, IsClear}
use Rattle.cc_lanes.specs.Joins.{PathBy, IsJoined}
use Rattle.cc_lanes.proofs.Listing.{filter_only, filter_new}
use Rattle.cc_listing_shared.specs.Cutting.{cuts}
use Rattle.cc_listing_shared.specs.Living.{IsReach}
use Rattle.cc_listing_shared.proofs.Truth.{and_true, true_and}
use Rattle.cc_listing_shared.proofs.Reaching.{reachable_within}
use Rattle.cc_listing_calls.specs.Numbered.{AreNumbered}
use Rattle.cc_listing_calls.specs.Founds.{is_reached, IsSource}
use Rattle.cc_listing_calls.proofs.Numbering.{stretch_as, the_access}

pub definitions_are : (writes given passed reads out : List Access) → out ≡ writes ++ given ++ passed → (a : Access) → Contains out a ↔ DefinesAny (accesses writes given passed reads) a
definitions_are writes given passed reads out e a = (
  λ is. ⊎_elim
      (λ x. inl (Contains-append_cases writes given a x))
      (λ p. inr p)
      (Contains-append_cases (writes ++ given) passed a (subst (λ (xs : List Access). Contains xs a) e is)),
  λ t. subst (λ (xs : List Access). Contains xs a) (sym e) (⊎_elim
      (λ v. ⊎_elim
      (λ w. Contains-append_left (writes ++ given) passed a (Contains-append_left writes given a w))
      (λ g. Contains-append_left (writes ++ given) passed a (Contains-append_right writes given a g))
      v)
      (λ p. Contains-append_right (writes ++ given) passed a p)
      t),
)

module _ (next within : Next) (root : ℕ) (T : Tables) (reach : List Block) (writes given passed reads all named targets : List Access)
    (is_reach : IsReach next root reach)
    (defines : (a : Access) → Contains all a ↔ DefinesAny (accesses writes given passed reads) a)
    (numbers : AreNumbered named targets) where
  abbrev A : Accesses
  A = accesses writes given passed reads

  abbrev G : Steps
  G = steps next within root

  abbrev outer : List Access
  outer = filter (cuts T) writes

  abbrev starts : List Access
  starts = filter (is_reached root reach) all

  module _ (d : Access) (slot : Slot) (at : slice_get T.slots d.slot ≡ Some slot) where
    named_of : (k : Kind) → slot.kind ≡ k → is_named T d.slot ≡ named_kind k
    named_of k e = ap named_in at ∙ ap named_kind e

    to_cut : slot.kind ≡ kind.Named → (a : ℕ) → IsAt (WritesByName T A) d.slot a → IsAt (Contains outer) d.slot a
    to_cut e a x = (x.0, filter_new (cuts T) writes x.0 x.1.1 (true_and (is_by_name T x.0.occurrence) (is_named T x.0.slot) x.1.0 (ap (is_named T) x.2 ∙ named_of kind.Named e)), x.2, x.3)

    from_cut : (a : ℕ) → IsAt (Contains outer) d.slot a → IsAt (WritesByName T A) d.slot a
    from_cut a x = let h = filter_only (cuts T) writes x.0 x.1 in (x.0, ((and_true (is_by_name T x.0.occurrence) (is_named T x.0.slot) h.1).0, h.0), x.2, x.3)

    no_cut : slot.kind ≡ kind.Open → (a : ℕ) → IsAt (Contains outer) d.slot a → ⊥
    no_cut e a x = let h = filter_only (cuts T) writes x.0 x.1 in
        let y = (and_true (is_by_name T x.0.occurrence) (is_named T x.0.slot) h.1).1 in let z = sym (ap (is_named T) x.2 ∙ named_of kind.Open e) ∙ y in cc

    into_all : (a : ℕ) → IsAt (DefinesAny A) d.slot a → IsAt (Contains all) d.slot a
    into_all a x = (x.0, (defines x.0).1 x.1, x.2, x.3)

    from_all : (a : ℕ) → IsAt (Contains all) d.slot a → IsAt (DefinesAny A) d.slot a
    from_all a x = (x.0, (defines x.0).0 x.1, x.2, x.3)

    to_clear : (k : Kind) (from to : ℕ) → slot.kind ≡ k → PathBy next within all outer k d.slot from to → IsClear G T A k d.slot from to
    to_clear kind.Inside from to e p = stretch_as into_all p
    to_clear kind.Named from to e p = stretch_as (to_cut e) p
    to_clear kind.Open from to e p = stretch_as (λ a never. absurd never) p

    from_clear : (k : Kind) (from to : ℕ) → slot.kind ≡ k → IsClear G T A k d.slot from to → PathBy next within all outer k d.slot from to
    from_clear kind.Inside from to e p = stretch_as from_all p
    from_clear kind.Named from to e p = stretch_as from_cut p
    from_clear kind.Open from to e p = stretch_as (no_cut e) p

  to_source : (f : Found) → IsJoined next within T all outer starts targets f → IsSource G T A named f
  to_source f j =
      let h = filter_only (is_reached root reach) all j.start j.begins in
      let w = (numbers j.target).0 j.ends in (
        w.0,
        ap (slice_get named) (sym j.is_target) ∙ w.1,
        (
          record {
            definition = j.start;
            slot = j.slot;
            defines = (defines j.start).0 h.0;
            same_slot = w.2 ∙ j.same_slot;
            at = j.at;
            is_definition = j.is_start;
            reachable = (is_reach j.start.point).0 h.1;
            clear = subst (λ n. IsClear G T A j.slot.kind j.start.slot j.start.point n) (sym w.3) (to_clear j.start j.slot j.at j.slot.kind j.start.point j.target.point refl j.path);
          },
          j.is_object,
        ),
      )

  from_source : (f : Found) → IsSource G T A named f → IsJoined next within T all outer starts targets f
  from_source f w =
      let read = w.0 in
      let r = w.2.0 in
      let target = the_access read.point read.slot f.reader in
      record {
        start = r.definition;
        target = target;
        slot = r.slot;
        begins = filter_new (is_reached root reach) all r.definition ((defines r.definition).1 r.defines) ((is_reach r.definition.point).1 r.reachable);
        ends = (numbers target).1 (read, w.1, refl, refl);
        same_slot = r.same_slot;
        at = r.at;
        is_start = r.is_definition;
        is_target = refl;
        is_object = w.2.1;
        path = from_clear r.definition r.slot r.at r.slot.kind r.definition.point read.point refl r.clear;
      }

  pub sources_are : (f : Found) → (IsJoined next within T all outer starts targets f) ↔ IsSource G T A named f
  sources_are f = (to_source f, from_source f)

pub if_sources : (next within : Next) (root : ℕ) (T : Tables) (reach : List Block) (writes given passed reads all all' all'' cutters cutters' begins begins' named ends ends' : List Access) (r : Result (Vec Found Global) Memory) →
    IsReach next root reach → ((a : Access) → Contains all a ↔ DefinesAny (accesses writes given passed reads) a) → all' ≡ all → all'' ≡ all →
    cutters ≡ filter (cuts T) writes → cutters' ≡ cutters → begins ≡ filter (is_reached root reach) all' → begins' ≡ begins → AreNumbered named ends → ends' ≡ ends →
    IfOk r (λ out. (f : Found) → Contains out.items f ↔ IsJoined next within T all'' cutters' begins' ends' f) → IfOk r (λ out. (f : Found) → Contains out.items f ↔ IsSource (steps next within root) T (accesses writes given passed reads) named f)
if_sources next within root T reach writes given passed reads all all' all'' cutters cutters' begins begins' named ends ends' (Ok out) is_reach defines e_all e_all' e_cut e_cut' e_begin e_begin' numbers e_ends exact = λ f.
    let law = sources_are next within root T reach writes given passed reads all named ends is_reach defines numbers f in
    let same_begins : begins' ≡ filter (is_reached root reach) all = e_begin' ∙ e_begin ∙ ap (filter (is_reached root reach)) e_all in
    let one = subst (λ (xs : List Access). Contains out.items f ↔ IsJoined next within T xs cutters' begins' ends' f) e_all' (exact f) in
    let two = subst (λ (xs : List Access). Contains out.items f ↔ IsJoined next within T all xs begins' ends' f) (e_cut' ∙ e_cut) one in
    let three = subst (λ (xs : List Access). Contains out.items f ↔ IsJoined next within T all (filter (cuts T) writes) xs ends' f) same_begins two in
    let here = subst (λ (xs : List Access). Contains out.items f ↔ IsJoined next within T all (filter (cuts T) writes) (filter (is_reached root reach) all) xs f) e_ends three in
    (λ is. law.0 (here.0 is), λ x. here.1 (law.1 x))
if_sources next within root T reach writes given passed reads all all' all'' cutters cutters' begins begins' named ends ends' (Err e) is_reach defines e_all e_all' e_cut e_cut' e_begin e_begin' numbers e_ends exact = exact

pub reached_within : (next : Next) (root : ℕ) (reach : List Block) (all begins : List Access) → StaysWithin next → root < length next → IsReach next root reach → begins ≡ filter (is_reached root reach) all → (a : Access) → Contains begins a → a.point < length next
reached_within next root reach all begins stays lt is_reach e a is =
    let h = filter_only (is_reached root reach) all a (subst (λ (xs : List Access). Contains xs a) e is) in
    reachable_within next root a.point stays lt ((is_reach a.point).0 h.1)
