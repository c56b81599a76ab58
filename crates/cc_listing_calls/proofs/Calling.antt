-- The call rows.
use Rattle.std.proofs.Common.{ℕ, ◌≡◌, true, List, refl, sym, ap, ◌∙◌, subst}
use Rattle.std.specs.Prelude.{Contains, filter, not, nat_eq, Result, Ok, Err, OnOk}
use Rattle.cc_blocks.specs.declared.block.Block.{Block}
use Rattle.cc_flows.specs.Sweeping.{Next}
use Rattle.cc_rows.specs.Gains.{Gains, Or, Each}
use Rattle.cc_rows.specs.Limits.{HasMore}
use Rattle.cc_rows.specs.Order.{row_cmp}
use Rattle.cc_rows.specs.declared.row.Row.{Row}
use Rattle.cc_rows.specs.declared.row.Row.TheVariants as row
use Rattle.cc_rows.proofs.Gained.{gains_as, more_as, or_as}
use Rattle.cc_listed.specs.declared.table.Tables.{Tables}
use Rattle.cc_listed.specs.declared.calls.Call.{Call}
use Rattle.cc_listed.specs.Tabled.{component_of}
use Rattle.cc_listed.specs.Stretches.{Steps, steps}
use Rattle.cc_listed.specs.CallsListed.{IsCall}
use Rattle.cc_lanes.proofs.Listing.{filter_only, filter_new}
use Rattle.cc_lanes.proofs.Spreads.{goes_others, others_go}
use Rattle.cc_listing_shared.specs.Living.{is_reached, IsReach}
use Rattle.cc_listing_shared.proofs.Truth.{and_true, true_and}
use Rattle.cc_listing_calls.specs.Live.{is_live}
use Rattle.cc_listing_calls.specs.Givings.{IsCallOf}
use Rattle.cc_listing_calls.specs.ListedCalls.{IsCallRow}
use Rattle.cc_listing_calls.specs.Adding.{AddsCalls, HasMoreCalls}

module _ (next within : Next) (root : ℕ) (T : Tables) (reach : List Block) (is_reach : IsReach next root reach) where
  abbrev G : Steps
  G = steps next within root

  pub to_call : (c : Call) → is_live T root reach c ≡ true → IsCall G T c c.site c.callee
  to_call c e =
      let t = and_true (not (nat_eq (component_of T c.site) (component_of T c.callee))) (is_reached root reach c.at) e in
      record { is_site = refl; is_callee = refl; differ = goes_others (component_of T c.site) (component_of T c.callee) t.0; reachable = (is_reach c.at).0 t.1 }

  pub from_call : (c : Call) (s g : ℕ) → IsCall G T c s g → is_live T root reach c ≡ true
  from_call c s g h = true_and (not (nat_eq (component_of T c.site) (component_of T c.callee))) (is_reached root reach c.at)
      (others_go (component_of T c.site) (component_of T c.callee) (λ e. h.differ (ap (component_of T) (sym h.is_site) ∙ e ∙ ap (component_of T) h.is_callee)))
      ((is_reach c.at).1 h.reachable)

  module _ (calls live : List Call) (e_live : live ≡ filter (is_live T root reach) calls) where
    pub live_only : (c : Call) → Contains live c → Contains calls c × IsCall G T c c.site c.callee
    live_only c is = let h = filter_only (is_live T root reach) calls c (subst (λ (cs : List Call). Contains cs c) e_live is) in (h.0, to_call c h.1)

    pub live_new : (c : Call) (s g : ℕ) → Contains calls c → IsCall G T c s g → Contains live c
    live_new c s g is h = subst (λ (cs : List Call). Contains cs c) (sym e_live) (filter_new (is_live T root reach) calls c is (from_call c s g h))

    pub to_call_row : (x : Row) → Each live IsCallOf x → IsCallRow G T calls x
    to_call_row x w = let h = live_only w.0 w.1 in subst (IsCallRow G T calls) w.2 (w.0, h.0, h.1)

    pub from_call_row : (x : Row) → IsCallRow G T calls x → Each live IsCallOf x
    from_call_row (row.Call s g) w = (w.0, live_new w.0 s g w.1 w.2, let e = w.2.is_site in let f = w.2.is_callee in cc)
    from_call_row (row.Shared d u o) w = absurd w
    from_call_row (row.Parameter d s k g u) w = absurd w
    from_call_row (row.Return d s g) w = absurd w

pub if_calls : {X E : Type 0} (r : Result X E) (root : ℕ) (T : Tables) (reach : List Block) (calls live live' : List Call) (old new : List Row) → live ≡ filter (is_live T root reach) calls → live' ≡ live → OnOk r (Gains old new (Each live' IsCallOf)) → OnOk r (AddsCalls root T reach calls old new)
if_calls (Ok u) root T reach calls live live' old new e e' gains = λ next within is_reach.
    gains_as old new (Each live' IsCallOf) (IsCallRow (steps next within root) T calls)
    (to_call_row next within root T reach is_reach calls live' (e' ∙ e)) (from_call_row next within root T reach is_reach calls live' (e' ∙ e)) gains
if_calls (Err u) root T reach calls live live' old new e e' gains = gains

pub more_calls : (root : ℕ) (T : Tables) (reach : List Block) (calls live live' : List Call) (old : List Row) (most : ℕ) → live ≡ filter (is_live T root reach) calls → live' ≡ live → HasMore row_cmp (Or old (Each live' IsCallOf)) most → HasMoreCalls root T reach calls old most
more_calls root T reach calls live live' old most e e' more next within is_reach =
    more_as row_cmp most (Or old (Each live' IsCallOf)) (Or old (IsCallRow (steps next within root) T calls))
    (or_as row_cmp most old (Each live' IsCallOf) (IsCallRow (steps next within root) T calls) (to_call_row next within root T reach is_reach calls live' (e' ∙ e))) more
