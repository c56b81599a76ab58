-- Rows by number.
use Rattle.std.proofs.Common.{ℕ, ◌≡◌, ◌+◌, ◌<◌, ◌≤◌, ⊎_elim, List, [], ◌∷◌, ◌++◌, map, Option, Some, length, take, refl, sym, ap, ◌∙◌, subst, arith}
use Rattle.std.specs.Prelude.{Contains, ◌↔◌, slice_get, Result, Ok, Err, IfOk}
use Rattle.std.specs.declared.vec.Vec.{Vec}
use Rattle.std.specs.declared.alloc.Global.{Global}
use Rattle.std.proofs.lemmas.List.Elements.{Contains-push_cases}
use Rattle.cc_base.specs.declared.memory.Memory.{Memory}
use Rattle.cc_flows.specs.Masks.{row_of}
use Rattle.cc_lanes.specs.Rows.{Pair, Holds}
use Rattle.cc_lanes.proofs.Listing.{take_next}
use Rattle.cc_listing_calls.specs.Numbered.{AreItems}
use Rattle.cc_listing_calls.specs.Groups.{pair, AreGrouped, AreIndexed, AreBy}
use Rattle.cc_listing_calls.proofs.Numbering.{map_at, at_map, pair_is}

pub bound_next : (xs : List Pair) (k : ℕ) (y : Pair) (count more : ℕ) → slice_get xs k ≡ Some y → count ≤ more → y.0 < more → ((p : Pair) → Contains (take k xs) p → p.0 < count) → (p : Pair) → Contains (take (k + 1) xs) p → p.0 < more
bound_next xs k y count more at le lt before p is = ⊎_elim
    (λ old. omega (arith, before p old))
    (λ (e : y ≡ p). subst (λ (q : Pair). q.0 < more) e lt)
    (Contains-push_cases (take k xs) y p (subst (λ (ys : List Pair). Contains ys p) (take_next xs k y at) is))

pub if_grouped : (pairs : List Pair) (count : ℕ) (r : Result (Vec (List ℕ) Global) Memory) → ((p : Pair) → Contains pairs p → p.0 < count) → IfOk r (λ rows. length rows.items ≡ count) → IfOk r (λ rows. Holds rows.items pairs) → IfOk r (λ rows. AreGrouped rows.items pairs)
if_grouped pairs count (Ok rows) below long holds = λ r x. (
  λ is. (let w = (holds r x).0 is in subst (λ (q : Pair). Contains pairs q) (sym (pair_is r x w.1.0 (sym w.1.2) (sym w.1.3))) w.1.1),
  λ is. (holds r x).1 (omega (arith, below (pair r x) is, long), (pair r x, is, refl, refl)),
)
if_grouped pairs count (Err e) below long holds = holds

pub if_indexed : (keys : List (Option ℕ)) (pairs pairs' : List Pair) (r : Result (Vec (List ℕ) Global) Memory) → AreItems keys pairs → pairs' ≡ pairs → IfOk r (λ rows. AreGrouped rows.items pairs') → IfOk r (λ rows. AreIndexed keys rows.items)
if_indexed keys pairs pairs' (Ok rows) items e grouped = λ r k. (
  λ is. (items (pair r k)).0 (subst (λ (ps : List Pair). Contains ps (pair r k)) e ((grouped r k).0 is)),
  λ at. (grouped r k).1 (subst (λ (ps : List Pair). Contains ps (pair r k)) (sym e) ((items (pair r k)).1 at)),
)
if_indexed keys pairs pairs' (Err x) items e grouped = grouped

pub if_by : {X : Type 0} (key : X → ℕ) (xs : List X) (keys keys' : List (Option ℕ)) (r : Result (Vec (List ℕ) Global) Memory) → keys ≡ map (λ x. Some (key x)) xs → keys' ≡ keys → IfOk r (λ rows. AreIndexed keys' rows.items) → IfOk r (λ rows. AreBy key xs rows.items)
if_by {X} key xs keys keys' (Ok rows) e e' indexed = λ r k. (
  λ is. (let m = map_at (λ (x : X). Some (key x)) xs k (Some r) (subst (λ (ks : List (Option ℕ)). slice_get ks k ≡ Some (Some r)) (e' ∙ e) ((indexed r k).0 is)) in
      (m.0, m.1, let s = m.2 in cc)),
  λ w. (indexed r k).1 (subst (λ (ks : List (Option ℕ)). slice_get ks k ≡ Some (Some r)) (sym (e' ∙ e)) (at_map (λ (x : X). Some (key x)) xs k w.0 w.1 ∙ ap (λ (i : ℕ). Some (Some i)) w.2)),
)
if_by key xs keys keys' (Err x) e e' indexed = indexed
