-- The rows of all four kinds.
use Rattle.std.proofs.Common.{ℕ, ◌≡◌, ◌<◌, ◌⊎◌, inl, inr, ⊎_elim, List, [], ◌∷◌, ◌++◌, map, length, refl, sym, ap, ◌∙◌, subst, arith}
use Rattle.std.specs.Prelude.{Contains, ◌↔◌, Result, Ok, Err, IfOk}
use Rattle.std.specs.List.{AllByRecursion}
use Rattle.std.specs.List.Sorted.{IsStrictlySortedBy}
use Rattle.std.specs.declared.cmp.Ordering.{Ordering}
use Rattle.std.specs.declared.cmp.Ordering.TheVariants.{Less}
use Rattle.std.specs.declared.vec.Vec.{Vec}
use Rattle.std.specs.declared.alloc.Global.{Global}
use Rattle.std.proofs.lemmas.List.{length-map}
use Rattle.std.proofs.lemmas.List.Elements.{Contains-append_left, Contains-append_right, Contains-append_cases}
use Rattle.cc_flows.specs.Sweeping.{Next}
use Rattle.cc_flows.specs.declared.flow.Found.{Found}
use Rattle.cc_flows.specs.Flows.{found_cmp}
use Rattle.cc_rows.specs.Limits.{HasMore}
use Rattle.cc_rows.specs.Order.{row_cmp}
use Rattle.cc_rows.specs.declared.row.Row.{Row}
use Rattle.cc_rows.specs.declared.row.Row.TheVariants as row
use Rattle.cc_rows.specs.declared.stop.Stop.{Stop}
use Rattle.cc_lanes.proofs.Listing.{map_new, map_only}
use Rattle.cc_listed.specs.declared.table.Access.{Access}
use Rattle.cc_listed.specs.declared.table.Tables.{Tables}
use Rattle.cc_listed.specs.declared.calls.Calls.{Calls}
use Rattle.cc_listed.specs.Stretches.{Steps, steps, Accesses, accesses}
use Rattle.cc_listed.specs.Listed.{IsShared, StayInside}
use Rattle.cc_listing_shared.specs.SharedRows as sharing
use Rattle.cc_listing_calls.specs.ListedCalls.{IsListedCall}
use Rattle.cc_listing_rows.specs.ListedRows.{IsJudged, IsListed, AreListed, HasMoreListed, shared_row}

-- in the order in which they were found
all_after : (x : Found) (ys : List Found) → AllByRecursion (λ y. found_cmp x y ≡ Less) ys → AllByRecursion (λ y. row_cmp (shared_row x) y ≡ Less) (map shared_row ys)
all_after x [] h = h
all_after x (y ∷ ys) h = (h.0, all_after x ys h.1)

sorted : (xs : List Found) → IsStrictlySortedBy found_cmp xs → IsStrictlySortedBy row_cmp (map shared_row xs)
unfolding IsStrictlySortedBy
sorted [] s = s
sorted (x ∷ xs) s = (all_after x xs s.0, sorted xs s.1)

module _ (next within : Next) (root : ℕ) (T : Tables) (writes given passed reads : List Access) (C : Calls) where
  abbrev G : Steps
  G = steps next within root

  abbrev A : Accesses
  A = accesses writes given passed reads

  from_call : (x : Row) → IsListedCall G T A C x → IsListed G T A C x
  from_call (row.Call s g) w = w
  from_call (row.Shared d u o) w = absurd w
  from_call (row.Parameter d s k g u) w = w
  from_call (row.Return d s g) w = w

  judged : (x : Row) → StayInside T A → IsJudged T A x
  judged (row.Call s g) stay = tt
  judged (row.Shared d u o) stay = stay
  judged (row.Parameter d s k g u) stay = tt
  judged (row.Return d s g) stay = tt

  -- what was found is a listed row
  from_shared : (found : List Found) → sharing.AreListed next root T writes given passed reads found → (x : Row) → IsJudged T A x → (f : Found) → Contains found f → shared_row f ≡ x → IsListed G T A C x
  from_shared found shared (row.Call s g) stay f has e = absurd (let no = e in cc)
  from_shared found shared (row.Shared d u o) stay f has e = subst (IsListed G T A C) e ((shared within stay f).0 has)
  from_shared found shared (row.Parameter d s k g u) stay f has e = absurd (let no = e in cc)
  from_shared found shared (row.Return d s g) stay f has e = absurd (let no = e in cc)

  -- a listed row is one that was found, or another one
  kinds : (found : List Found) → sharing.AreListed next root T writes given passed reads found → (x : Row) → IsJudged T A x → IsListed G T A C x
      → IsListedCall G T A C x ⊎ ((f : Found) × Contains found f × (shared_row f ≡ x))
  kinds found shared (row.Call s g) stay w = inl w
  kinds found shared (row.Shared d u o) stay w =
      let f : Found = record { definition = d; reader = u; object = o } in
      inr (f, (shared within stay f).1 w, refl)
  kinds found shared (row.Parameter d s k g u) stay w = inl w
  kinds found shared (row.Return d s g) stay w = inl w

  pub all_listed : (called : List Row) (found found' : List Found) (more more' rows : List Row) → ((x : Row) → Contains called x ↔ IsListedCall G T A C x) → sharing.AreListed next root T writes given passed reads found → found' ≡ found → more ≡ map shared_row found' → more' ≡ more → rows ≡ called ++ more' →
      AreListed G T A C rows
  all_listed called found found' more more' rows calls shared e_found e_more e_more' e_rows x stay = (
    λ is. ⊎_elim
        (λ l. from_call x ((calls x).0 l))
        (λ r. (let w = map_only shared_row found x (subst (λ (xs : List Row). Contains xs x) (e_more' ∙ e_more ∙ ap (map shared_row) e_found) r) in
        from_shared found shared x stay w.0 w.1 w.2))
        (Contains-append_cases called more' x (subst (λ (xs : List Row). Contains xs x) e_rows is)),
    λ w. subst (λ (xs : List Row). Contains xs x) (sym e_rows) (⊎_elim
        (λ l. Contains-append_left called more' x ((calls x).1 l))
        (λ r. Contains-append_right called more' x (subst (λ (xs : List Row). Contains xs x) (sym (e_more' ∙ e_more ∙ ap (map shared_row) e_found))
        (subst (λ (y : Row). Contains (map shared_row found) y) r.2 (map_new shared_row found r.0 r.1))))
        (kinds found shared x stay w)),
  )

  pub more_called : (most : ℕ) → HasMore row_cmp (IsListedCall G T A C) most → HasMoreListed G T A C most
  more_called most m stay = (m.0, m.1, m.2, λ x is. from_call x (m.3 x is))

  pub more_shared : (most : ℕ) → sharing.HasMoreListed next root T writes given passed reads most → HasMoreListed G T A C most
  more_shared most more stay =
      let m = more within stay in (
        map shared_row m.0,
        sorted m.0 m.1,
        omega (arith, length-map m.0 shared_row, m.2),
        λ x is. (let w = map_only shared_row m.0 x is in subst (IsListed G T A C) w.2 (m.3 w.0 w.1)),
      )

  pub if_listed : (rows : List Row) (r : Result (Vec Row Global) Stop) → IfOk r (λ out. (x : Row) → Contains out.items x ↔ Contains rows x) → AreListed G T A C rows → IfOk r (λ out. AreListed G T A C out.items)
  if_listed rows (Ok out) same listed = λ x stay. (λ is. (listed x stay).0 ((same x).0 is), λ w. (same x).1 ((listed x stay).1 w))
  if_listed rows (Err e) same listed = same

  pub more_listed : (rows : List Row) (most : ℕ) → AreListed G T A C rows → HasMore row_cmp (Contains rows) most → HasMoreListed G T A C most
  more_listed rows most listed m stay = (m.0, m.1, m.2, λ x is. (listed x (judged x stay)).0 (m.3 x is))
