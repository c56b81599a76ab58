-- The first readers of formals.
use Rattle.std.proofs.Common.{ℕ, ◌≡◌, ◌<◌, ◌⊎◌, inl, inr, ⊎_elim, List, [], ◌++◌, map, Some, length, refl, sym, ap, ◌∙◌, subst}
use Rattle.std.specs.Prelude.{Contains, ◌↔◌, slice_get, Result, Ok, Err, IfOk}
use Rattle.std.specs.declared.vec.Vec.{Vec}
use Rattle.std.specs.declared.alloc.Global.{Global}
use Rattle.std.proofs.lemmas.List.Elements.{Contains-append_left, Contains-append_right, Contains-append_cases}
use Rattle.cc_base.specs.declared.memory.Memory.{Memory}
use Rattle.cc_flows.specs.Sweeping.{Next}
use Rattle.cc_flows.specs.declared.flow.Found.{Found}
use Rattle.cc_rows.proofs.Gained.{contains_at}
use Rattle.cc_listed.specs.declared.table.Access.{Access}
use Rattle.cc_listed.specs.declared.table.Kind.{Kind}
use Rattle.cc_listed.specs.declared.table.Kind.TheVariants as kind
use Rattle.cc_listed.specs.declared.table.Tables.{Tables}
use Rattle.cc_listed.specs.declared.calls.Formal.{Formal}
use Rattle.cc_listed.specs.Stretches.{Stretch, Never, IsAt, Accesses, accesses, Steps, steps}
use Rattle.cc_listed.specs.CallsListed.{Touches, IsFirst}
use Rattle.cc_lanes.specs.Joins.{PathBy, IsJoined}
use Rattle.cc_lanes.proofs.Listing.{none}
use Rattle.cc_listing_calls.specs.Numbered.{AreNumbered, entry_of}
use Rattle.cc_listing_calls.specs.Founds.{IsFirstReader}
use Rattle.cc_listing_calls.proofs.Numbering.{stretch_as, map_at, at_map, the_access}

pub touching_is : (writes given passed reads out : List Access) → out ≡ reads ++ writes ++ given ++ passed → (a : Access) → Contains out a ↔ Touches (accesses writes given passed reads) a
touching_is writes given passed reads out e a = (
  λ is. ⊎_elim
      (λ x. ⊎_elim
      (λ y. ⊎_elim
      (λ z. inl z)
      (λ w. inr (inl (inl w)))
      (Contains-append_cases reads writes a y))
      (λ g. inr (inl (inr g)))
      (Contains-append_cases (reads ++ writes) given a x))
      (λ p. inr (inr p))
      (Contains-append_cases (reads ++ writes ++ given) passed a (subst (λ (xs : List Access). Contains xs a) e is)),
  λ t. subst (λ (xs : List Access). Contains xs a) (sym e) (⊎_elim
      (λ z. Contains-append_left (reads ++ writes ++ given) passed a (Contains-append_left (reads ++ writes) given a (Contains-append_left reads writes a z)))
      (λ d. ⊎_elim
      (λ v. ⊎_elim
      (λ w. Contains-append_left (reads ++ writes ++ given) passed a (Contains-append_left (reads ++ writes) given a (Contains-append_right reads writes a w)))
      (λ g. Contains-append_left (reads ++ writes ++ given) passed a (Contains-append_right (reads ++ writes) given a g))
      v)
      (λ p. Contains-append_right (reads ++ writes ++ given) passed a p)
      d)
      t),
)

module _ (next within : Next) (root : ℕ) (T : Tables) (writes given passed reads cutters starts : List Access) (formals : List Formal)
    (touch : (a : Access) → Contains cutters a ↔ Touches (accesses writes given passed reads) a)
    (numbers : AreNumbered (map entry_of formals) starts) where
  abbrev A : Accesses
  A = accesses writes given passed reads

  abbrev G : Steps
  G = steps next within root

  cut_to : (s a : ℕ) → IsAt (Touches A) s a → IsAt (Contains cutters) s a
  cut_to s a x = (x.0, (touch x.0).1 x.1, x.2, x.3)

  cut_from : (s a : ℕ) → IsAt (Contains cutters) s a → IsAt (Touches A) s a
  cut_from s a x = (x.0, (touch x.0).0 x.1, x.2, x.3)

  none_at : (s a : ℕ) → IsAt (Contains []) s a → ⊥
  none_at s a x = none x.0 x.1

  to_first : (k : Kind) (s from to : ℕ) → PathBy next within cutters [] k s from to → IsFirst G A k s from to
  to_first kind.Inside s from to p = stretch_as (cut_to s) p
  to_first kind.Named s from to p = stretch_as (λ a never. absurd never) p
  to_first kind.Open s from to p = stretch_as (λ a never. absurd never) p

  from_first : (k : Kind) (s from to : ℕ) → IsFirst G A k s from to → PathBy next within cutters [] k s from to
  from_first kind.Inside s from to p = stretch_as (cut_from s) p
  from_first kind.Named s from to p = stretch_as (none_at s) p
  from_first kind.Open s from to p = stretch_as (none_at s) p

  to_reader : (f : Found) → IsJoined next within T cutters [] starts reads f → IsFirstReader G T A formals f
  to_reader f j =
      let w = (numbers j.start).0 j.begins in
      let m = map_at entry_of formals j.start.occurrence w.0 w.1 in
      let slot : m.0.slot ≡ j.start.slot = ap (λ (a : Access). a.slot) m.2 ∙ w.2 in
      let point : m.0.entry ≡ j.start.point = ap (λ (a : Access). a.point) m.2 ∙ w.3 in (
        m.0,
        ap (slice_get formals) (sym j.is_start) ∙ m.1,
        (
          record {
            read = j.target;
            slot = j.slot;
            reads = j.ends;
            same_slot = j.same_slot ∙ sym slot;
            at = ap (slice_get T.slots) slot ∙ j.at;
            is_reader = j.is_target;
            first = subst (λ s. IsFirst G A j.slot.kind s m.0.entry j.target.point) (sym slot)
                (subst (λ p. IsFirst G A j.slot.kind j.start.slot p j.target.point) (sym point) (to_first j.slot.kind j.start.slot j.start.point j.target.point j.path));
          },
          j.is_object,
        ),
      )

  from_reader : (f : Found) → IsFirstReader G T A formals f → IsJoined next within T cutters [] starts reads f
  from_reader f w =
      let formal = w.0 in
      let r = w.2.0 in
      let start = the_access formal.entry formal.slot f.definition in
      record {
        start = start;
        target = r.read;
        slot = r.slot;
        begins = (numbers start).1 (entry_of formal, at_map entry_of formals f.definition formal w.1, refl, refl);
        ends = r.reads;
        same_slot = r.same_slot;
        at = r.at;
        is_start = refl;
        is_target = r.is_reader;
        is_object = w.2.1;
        path = from_first r.slot.kind formal.slot formal.entry r.read.point r.first;
      }

  pub firsts : (f : Found) → (IsJoined next within T cutters [] starts reads f) ↔ IsFirstReader G T A formals f
  firsts f = (to_reader f, from_reader f)

pub if_firsts : (next within : Next) (root : ℕ) (T : Tables) (writes given passed reads cutters cutters' entries entries' starts starts' : List Access) (formals : List Formal) (r : Result (Vec Found Global) Memory) →
    ((a : Access) → Contains cutters a ↔ Touches (accesses writes given passed reads) a) → cutters' ≡ cutters → entries ≡ map entry_of formals → entries' ≡ entries → AreNumbered entries' starts → starts' ≡ starts →
    IfOk r (λ out. (f : Found) → Contains out.items f ↔ IsJoined next within T cutters' [] starts' reads f) → IfOk r (λ out. (f : Found) → Contains out.items f ↔ IsFirstReader (steps next within root) T (accesses writes given passed reads) formals f)
if_firsts next within root T writes given passed reads cutters cutters' entries entries' starts starts' formals (Ok out) touch e_cut e_map e_entries numbers e_starts exact = λ f.
    let law = firsts next within root T writes given passed reads cutters starts formals touch (subst (λ (xs : List Access). AreNumbered xs starts) (e_entries ∙ e_map) numbers) f in
    let here = subst (λ (ss : List Access). Contains out.items f ↔ IsJoined next within T cutters [] ss reads f) e_starts (subst (λ (cs : List Access). Contains out.items f ↔ IsJoined next within T cs [] starts' reads f) e_cut (exact f)) in
    (λ is. law.0 (here.0 is), λ x. here.1 (law.1 x))
if_firsts next within root T writes given passed reads cutters cutters' entries entries' starts starts' formals (Err e) touch e_cut e_map e_entries numbers e_starts exact = exact

pub starts_within : (entries starts : List Access) (formals : List Formal) (points : ℕ) → entries ≡ map entry_of formals → AreNumbered entries starts → ((formal : Formal) → Contains formals formal → formal.entry < points) → (a : Access) → Contains starts a → a.point < points
starts_within entries starts formals points e numbers within a is =
    let w = (numbers a).0 is in
    let m = map_at entry_of formals a.occurrence w.0 (subst (λ (xs : List Access). slice_get xs a.occurrence ≡ Some w.0) e w.1) in
    subst (λ n. n < points) (ap (λ (x : Access). x.point) m.2 ∙ w.3) (within m.0 (contains_at formals a.occurrence m.0 m.1))
