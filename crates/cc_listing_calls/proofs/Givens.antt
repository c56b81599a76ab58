-- The return rows.
use Rattle.std.proofs.Common.{ℕ, ◌≡◌, true, ◌&&◌, List, [], ◌∷◌, Option, Some, None, refl, sym, ap, ◌∙◌, subst}
use Rattle.std.specs.Prelude.{Contains, filter, slice_get, Result, Ok, Err, OnOk}
use Rattle.cc_blocks.specs.declared.block.Block.{Block}
use Rattle.cc_flows.specs.Sweeping.{Next}
use Rattle.cc_flows.specs.Masks.{row_of}
use Rattle.cc_rows.specs.Gains.{Gains, Or, Each}
use Rattle.cc_rows.specs.Limits.{HasMore}
use Rattle.cc_rows.specs.Order.{row_cmp}
use Rattle.cc_rows.specs.declared.row.Row.{Row}
use Rattle.cc_rows.specs.declared.row.Row.TheVariants as row
use Rattle.cc_rows.proofs.Gained.{gains_as, more_as, or_as, contains_at, place}
use Rattle.cc_listed.specs.declared.table.Access.{Access}
use Rattle.cc_listed.specs.declared.table.Tables.{Tables}
use Rattle.cc_listed.specs.declared.calls.Call.{Call}
use Rattle.cc_listed.specs.declared.calls.Returned.{Returned}
use Rattle.cc_listed.specs.Stretches.{Accesses, accesses, Steps, steps}
use Rattle.cc_listed.specs.CallsListed.{GivesBack}
use Rattle.cc_lanes.proofs.Listing.{filter_only, filter_new}
use Rattle.cc_listing_shared.specs.Living.{IsReach}
use Rattle.cc_listing_shared.proofs.Truth.{and_true, true_and}
use Rattle.cc_listing_calls.specs.Groups.{AreBy, giver_of}
use Rattle.cc_listing_calls.specs.Founds.{AreSources}
use Rattle.cc_listing_calls.specs.Live.{is_live, is_asking, is_given}
use Rattle.cc_listing_calls.specs.declared.giving.Giving.{Giving}
use Rattle.cc_listing_calls.specs.Rows.{definitions_of}
use Rattle.cc_listing_calls.specs.Givings.{return_row, OfAsking}
use Rattle.cc_listing_calls.specs.ListedCalls.{IsReturnRow}
use Rattle.cc_listing_calls.specs.Adding.{AddsReturns, HasMoreReturns}
use Rattle.cc_listing_calls.proofs.Calling.{to_call, from_call}
use Rattle.cc_listing_calls.proofs.Passings.{single, single_new}

module _ (next within : Next) (root : ℕ) (T : Tables) (reach : List Block) (A : Accesses) (calls asking : List Call) (returns : List Returned) (named : List Access) (P : Giving)
    (is_reach : IsReach next root reach)
    (e_asking : asking ≡ filter (is_asking T root reach) calls)
    (e_returns : P.returns.now ≡ filter (is_given root reach) returns)
    (by_callee : AreBy giver_of P.returns.now P.by_callee.now)
    (sources : AreSources (steps next within root) T A named P.sources.now) where
  abbrev G : Steps
  G = steps next within root

  to_given : (r : Returned) (d : ℕ) (o : Option ℕ) → Contains (definitions_of (r.statement ∷ []) P.sources.now o) d → GivesBack G T A named r o d
  to_given r d None is = single r.statement d is
  to_given r d (Some n) is = (sources n d).0 is

  from_given : (r : Returned) (d : ℕ) (o : Option ℕ) → GivesBack G T A named r o d → Contains (definitions_of (r.statement ∷ []) P.sources.now o) d
  from_given r d None e = single_new r.statement d e
  from_given r d (Some n) w = (sources n d).1 w

  pub to_return : (x : Row) → Each asking (OfAsking P) x → IsReturnRow G T A calls returns named x
  to_return x w =
      let c = w.0 in
      let h = filter_only (is_asking T root reach) calls c (subst (λ (cs : List Call). Contains cs c) e_asking w.1) in
      let t = and_true c.used (is_live T root reach c) h.1 in
      let i = w.2.0 in
      let r = w.2.2.0 in
      let at = w.2.2.1 in
      let of_definition = w.2.2.2 in
      let d = of_definition.0 in
      let g = filter_only (is_given root reach) returns r (subst (λ (rs : List Returned). Contains rs r) e_returns (contains_at P.returns.now i r at)) in
      let b = (by_callee c.callee i).0 w.2.1 in
      let same : b.0 ≡ r = (let p = b.1 in let q = at in cc) in
      subst (IsReturnRow G T A calls returns named) of_definition.2 (record {
        call = c;
        returned = r;
        may_call = h.0;
        gives = g.0;
        is_call = to_call next within root T reach is_reach c t.1;
        used = t.0;
        is_returned = sym (ap giver_of same) ∙ b.2;
        reachable = (is_reach r.after).0 g.1;
        given = to_given r d r.named of_definition.1;
      })

  pub from_return : (x : Row) → IsReturnRow G T A calls returns named x → Each asking (OfAsking P) x
  from_return (row.Return d s g) p =
      let c = p.call in
      let r = p.returned in
      let has = subst (λ (rs : List Returned). Contains rs r) (sym e_returns) (filter_new (is_given root reach) returns r p.gives ((is_reach r.after).1 p.reachable)) in
      let at = place P.returns.now r has in
      let same : return_row c d ≡ row.Return d s g = (let e = p.is_call.is_site in let e' = p.is_call.is_callee in cc) in (
        c,
        subst (λ (cs : List Call). Contains cs c) (sym e_asking) (filter_new (is_asking T root reach) calls c p.may_call (true_and c.used (is_live T root reach c) p.used (from_call next within root T reach is_reach c s g p.is_call))),
        (
          has.0,
          (by_callee c.callee has.0).1 (r, at, p.is_returned ∙ sym p.is_call.is_callee),
          (r, at, (d, from_given r d r.named p.given, same)),
        ),
      )
  from_return (row.Call s g) p = absurd p
  from_return (row.Shared d u o) p = absurd p
  from_return (row.Parameter d s k g u) p = absurd p

module _ (root : ℕ) (T : Tables) (reach : List Block) (calls asking asking' : List Call) (given returns : List Returned) (P : Giving) (old new : List Row)
    (e_asking : asking ≡ filter (is_asking T root reach) calls) (e_asking' : asking' ≡ asking)
    (e_given : given ≡ filter (is_given root reach) returns) (e_returns : P.returns.now ≡ given)
    (rows' : List (List ℕ)) (by_callee : AreBy giver_of P.returns.now rows') (e_rows : P.by_callee.now ≡ rows') where
  by : AreBy giver_of P.returns.now P.by_callee.now
  by = subst (λ (rows : List (List ℕ)). AreBy giver_of P.returns.now rows) (sym e_rows) by_callee

  pub if_returns : {X E : Type 0} (r : Result X E) → OnOk r (Gains old new (Each asking' (OfAsking P))) → OnOk r (AddsReturns root T reach P.sources.now calls returns old new)
  if_returns (Ok u) gains = λ next within writes given_accesses passed reads named is_reach sources.
      gains_as old new (Each asking' (OfAsking P)) (IsReturnRow (steps next within root) T (accesses writes given_accesses passed reads) calls returns named)
      (to_return next within root T reach (accesses writes given_accesses passed reads) calls asking' returns named P is_reach (e_asking' ∙ e_asking) (e_returns ∙ e_given) by sources)
      (from_return next within root T reach (accesses writes given_accesses passed reads) calls asking' returns named P is_reach (e_asking' ∙ e_asking) (e_returns ∙ e_given) by sources)
      gains
  if_returns (Err e) gains = gains

  pub more_returns : (most : ℕ) → HasMore row_cmp (Or old (Each asking' (OfAsking P))) most → HasMoreReturns root T reach P.sources.now calls returns old most
  more_returns most more next within writes given_accesses passed reads named is_reach sources =
      more_as row_cmp most (Or old (Each asking' (OfAsking P))) (Or old (IsReturnRow (steps next within root) T (accesses writes given_accesses passed reads) calls returns named))
      (or_as row_cmp most old (Each asking' (OfAsking P)) (IsReturnRow (steps next within root) T (accesses writes given_accesses passed reads) calls returns named)
      (to_return next within root T reach (accesses writes given_accesses passed reads) calls asking' returns named P is_reach (e_asking' ∙ e_asking) (e_returns ∙ e_given) by sources))
      more
