-- The rows of all kinds but the shared ones.
use Rattle.std.proofs.Common.{ℕ, ◌≡◌, ◌⊎◌, inl, inr, ⊎_elim, List, [], subst}
use Rattle.std.specs.Prelude.{Contains, ◌↔◌, Result, Ok, Err, IfOk}
use Rattle.std.specs.declared.vec.Vec.{Vec}
use Rattle.std.specs.declared.alloc.Global.{Global}
use Rattle.cc_rows.specs.Gains.{Gains, Or}
use Rattle.cc_rows.specs.Limits.{HasMore}
use Rattle.cc_rows.specs.Order.{row_cmp}
use Rattle.cc_rows.specs.declared.row.Row.{Row}
use Rattle.cc_rows.specs.declared.row.Row.TheVariants as row
use Rattle.cc_rows.specs.declared.stop.Stop.{Stop}
use Rattle.cc_rows.proofs.Gained.{gains_all}
use Rattle.cc_lanes.proofs.Listing.{none}
use Rattle.cc_listed.specs.declared.table.Tables.{Tables}
use Rattle.cc_listed.specs.declared.calls.Calls.{Calls}
use Rattle.cc_listed.specs.Stretches.{Steps, Accesses}
use Rattle.cc_listing_calls.specs.ListedCalls.{IsCallRow, IsParameterRow, IsReturnRow, IsListedCall}

module _ (G : Steps) (T : Tables) (A : Accesses) (C : Calls) where
  abbrev Called : Row → Type 0
  Called = IsCallRow G T C.calls.now

  abbrev Returns : Row → Type 0
  Returns = IsReturnRow G T A C.calls.now C.returns.now C.named.now

  abbrev Passed : Row → Type 0
  Passed = IsParameterRow G T A C

  called : (x : Row) → Called x → IsListedCall G T A C x
  called (row.Call s g) w = w
  called (row.Shared d u o) w = w
  called (row.Parameter d s k g u) w = absurd w
  called (row.Return d s g) w = absurd w

  returned : (x : Row) → Returns x → IsListedCall G T A C x
  returned (row.Call s g) w = absurd w
  returned (row.Shared d u o) w = w
  returned (row.Parameter d s k g u) w = absurd w
  returned (row.Return d s g) w = w

  passed : (x : Row) → Passed x → IsListedCall G T A C x
  passed (row.Call s g) w = absurd w
  passed (row.Shared d u o) w = w
  passed (row.Parameter d s k g u) w = w
  passed (row.Return d s g) w = absurd w

  -- a row that is listed is of one of these kinds
  kinds : (x : Row) → IsListedCall G T A C x → (Called x ⊎ Returns x) ⊎ Passed x
  kinds (row.Call s g) w = inl (inl w)
  kinds (row.Shared d u o) w = absurd w
  kinds (row.Parameter d s k g u) w = inr w
  kinds (row.Return d s g) w = inl (inr w)

  module _ (before first second : List Row) (e : before ≡ []) (g : Gains before first Called) where
    from_first : (x : Row) → Contains first x → IsListedCall G T A C x
    from_first x is = called x ((gains_all before first Called e g x).0 is)

    module _ (h : Gains first second Returns) where
      from_second : (x : Row) → Contains second x → IsListedCall G T A C x
      from_second x is = ⊎_elim (from_first x) (returned x) ((h x).0 is)

      pub joined : (rows : List Row) → Gains second rows Passed → (x : Row) → Contains rows x ↔ IsListedCall G T A C x
      joined rows i x = (
        λ is. ⊎_elim (from_second x) (passed x) ((i x).0 is),
        λ w. (i x).1 (⊎_elim
            (λ y. inl ((h x).1 (⊎_elim (λ z. inl ((gains_all before first Called e g x).1 z)) inr y)))
            inr
            (kinds x w)),
      )

      pub more_passed : (most : ℕ) → HasMore row_cmp (Or second Passed) most → HasMore row_cmp (IsListedCall G T A C) most
      more_passed most m = (m.0, m.1, m.2, λ x is. ⊎_elim (from_second x) (passed x) (m.3 x is))

    pub more_returned : (most : ℕ) → HasMore row_cmp (Or first Returns) most → HasMore row_cmp (IsListedCall G T A C) most
    more_returned most m = (m.0, m.1, m.2, λ x is. ⊎_elim (from_first x) (returned x) (m.3 x is))

  pub more_called : (before : List Row) (most : ℕ) → before ≡ [] → HasMore row_cmp (Or before Called) most → HasMore row_cmp (IsListedCall G T A C) most
  more_called before most e m = (m.0, m.1, m.2, λ x is. ⊎_elim (λ old. absurd (none x (subst (λ (xs : List Row). Contains xs x) e old))) (called x) (m.3 x is))

  pub if_same : (rows : List Row) (r : Result (Vec Row Global) Stop) → IfOk r (λ out. (x : Row) → Contains out.items x ↔ Contains rows x) → ((x : Row) → Contains rows x ↔ IsListedCall G T A C x) → IfOk r (λ out. (x : Row) → Contains out.items x ↔ IsListedCall G T A C x)
  if_same rows (Ok out) same exact = λ x. (λ is. (exact x).0 ((same x).0 is), λ w. (same x).1 ((exact x).1 w))
  if_same rows (Err e) same exact = same

  pub more_listed : (rows : List Row) (most : ℕ) → ((x : Row) → Contains rows x ↔ IsListedCall G T A C x) → HasMore row_cmp (Contains rows) most → HasMore row_cmp (IsListedCall G T A C) most
  more_listed rows most exact m = (m.0, m.1, m.2, λ x is. (exact x).0 (m.3 x is))
