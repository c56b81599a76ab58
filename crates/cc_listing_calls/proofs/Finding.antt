-- Rows of what is found.
use Rattle.std.proofs.Common.{ℕ, ◌≡◌, List, map, Some, refl, sym, ap, ◌∙◌, subst}
use Rattle.std.specs.Prelude.{Contains, ◌↔◌, slice_get, Result, Ok, Err, IfOk}
use Rattle.std.specs.declared.vec.Vec.{Vec}
use Rattle.std.specs.declared.alloc.Global.{Global}
use Rattle.cc_base.specs.declared.memory.Memory.{Memory}
use Rattle.cc_flows.specs.declared.flow.Found.{Found}
use Rattle.cc_lanes.specs.Rows.{Pair}
use Rattle.cc_lanes.proofs.Listing.{map_new, map_only}
use Rattle.cc_listed.specs.declared.table.Access.{Access}
use Rattle.cc_listed.specs.declared.table.Tables.{Tables}
use Rattle.cc_listed.specs.declared.calls.Formal.{Formal}
use Rattle.cc_listed.specs.Stretches.{Steps, Accesses}
use Rattle.cc_listed.specs.CallsListed.{ReadsFirst, ReachesRead}
use Rattle.cc_listing_calls.specs.Groups.{pair, AreGrouped}
use Rattle.cc_listing_calls.specs.Founds.{IsFirstReader, IsSource, taken_pair, source_pair, AreTaken, AreSources}

abbrev the_found : ℕ → ℕ → ℕ → Found
the_found a b c = record { definition = a; reader = b; object = c }

module _ (G : Steps) (T : Tables) (A : Accesses) (found found' : List Found) (pairs pairs' : List Pair) (e_found : found' ≡ found) (e_pairs : pairs' ≡ pairs) where
  module _ (key : Found → Pair) (e : pairs ≡ map key found') where
    same : pairs' ≡ map key found
    same = e_pairs ∙ e ∙ ap (map key) e_found

    pub of_pair : (p : Pair) → Contains pairs' p → (f : Found) × Contains found f × (key f ≡ p)
    of_pair p is = map_only key found p (subst (λ (ps : List Pair). Contains ps p) same is)

    pub to_pair : (f : Found) → Contains found f → Contains pairs' (key f)
    to_pair f is = subst (λ (ps : List Pair). Contains ps (key f)) (sym same) (map_new key found f is)

  pub if_taken : (formals : List Formal) (r : Result (Vec (List ℕ) Global) Memory) → pairs ≡ map taken_pair found' → ((f : Found) → Contains found f ↔ IsFirstReader G T A formals f) →
      IfOk r (λ rows. AreGrouped rows.items pairs') → IfOk r (λ rows. AreTaken G T A formals rows.items)
  if_taken formals (Ok rows) e exact grouped = λ j u. (
    λ is. (let m = of_pair taken_pair e (pair j u) ((grouped j u).0 is) in
        let w = (exact m.0).0 m.1 in
        let f : m.0.definition ≡ j = ap (λ (p : Pair). p.0) m.2 in
        let g : m.0.reader ≡ u = ap (λ (p : Pair). p.1) m.2 in
        (w.0, ap (slice_get formals) (sym f) ∙ w.1, subst (λ n. ReadsFirst G T A w.0 n) g w.2.0)),
    λ w. (grouped j u).1 (let f = the_found j u w.2.slot.object in to_pair taken_pair e f ((exact f).1 (w.0, w.1, (w.2, refl)))),
  )
  if_taken formals (Err x) e exact grouped = grouped

  pub if_sources : (named : List Access) (r : Result (Vec (List ℕ) Global) Memory) → pairs ≡ map source_pair found' → ((f : Found) → Contains found f ↔ IsSource G T A named f) →
      IfOk r (λ rows. AreGrouped rows.items pairs') → IfOk r (λ rows. AreSources G T A named rows.items)
  if_sources named (Ok rows) e exact grouped = λ n d. (
    λ is. (let m = of_pair source_pair e (pair n d) ((grouped n d).0 is) in
        let w = (exact m.0).0 m.1 in
        let f : m.0.reader ≡ n = ap (λ (p : Pair). p.0) m.2 in
        let g : m.0.definition ≡ d = ap (λ (p : Pair). p.1) m.2 in
        (w.0, ap (slice_get named) (sym f) ∙ w.1, subst (λ i. ReachesRead G T A w.0 i) g w.2.0)),
    λ w. (grouped n d).1 (let f = the_found d n w.2.slot.object in to_pair source_pair e f ((exact f).1 (w.0, w.1, (w.2, refl)))),
  )
  if_sources named (Err x) e exact grouped = grouped
