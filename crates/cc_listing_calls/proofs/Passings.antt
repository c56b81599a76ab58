-- The parameter rows.
use Rattle.std.proofs.Common.{ℕ, ◌≡◌, true, List, [], ◌∷◌, Option, Some, None, refl, sym, ap, ◌∙◌, subst, ⊎_elim}
use Rattle.std.specs.Prelude.{Contains, filter, nat_eq, slice_get, Result, OnOk}
use Rattle.std.proofs.lemmas.Bool.{eqb-true, eq-eqb}
use Rattle.cc_blocks.specs.declared.block.Block.{Block}
use Rattle.cc_flows.specs.Sweeping.{Next}
use Rattle.cc_flows.specs.Masks.{row_of}
use Rattle.cc_rows.specs.Gains.{Gains, Or, Each}
use Rattle.cc_rows.specs.Limits.{HasMore}
use Rattle.cc_rows.specs.Order.{row_cmp}
use Rattle.cc_rows.specs.declared.row.Row.{Row}
use Rattle.cc_rows.specs.declared.row.Row.TheVariants as row
use Rattle.cc_rows.proofs.Gained.{gains_as_ok, more_as, or_as, contains_at, place}
use Rattle.cc_listed.specs.declared.table.Access.{Access}
use Rattle.cc_listed.specs.declared.table.Tables.{Tables}
use Rattle.cc_listed.specs.declared.calls.Call.{Call}
use Rattle.cc_listed.specs.declared.calls.Argument.{Argument}
use Rattle.cc_listed.specs.declared.calls.Formal.{Formal}
use Rattle.cc_listed.specs.declared.calls.Calls.{Calls}
use Rattle.cc_listed.specs.Stretches.{Path, Accesses, Steps, steps}
use Rattle.cc_listed.specs.CallsListed.{HandsOver, ReadsFirst}
use Rattle.cc_lanes.proofs.Listing.{none, here, cons_cases}
use Rattle.cc_listing_shared.specs.Living.{IsReach}
use Rattle.cc_listing_calls.specs.Groups.{AreBy, site_of, taker_of}
use Rattle.cc_listing_calls.specs.Founds.{AreTaken, AreSources}
use Rattle.cc_listing_calls.specs.Onward.{HandsFrom, Hands, AreHanding}
use Rattle.cc_listing_calls.specs.Live.{is_live}
use Rattle.cc_listing_calls.specs.declared.rows.Passing.{Passing}
use Rattle.cc_listing_calls.specs.Rows.{parameter, definitions_of, takes_in, OfFormal, OfDefinition, OfCall}
use Rattle.cc_listing_calls.specs.ListedCalls.{IsParameterRow}
use Rattle.cc_listing_calls.proofs.Calling.{live_only, live_new}

pub single : (x d : ℕ) → Contains (x ∷ []) d → x ≡ d
single x d is = ⊎_elim (λ e. e) (λ never. absurd (none d never)) (cons_cases x [] d is)

pub single_new : (x d : ℕ) → x ≡ d → Contains (x ∷ []) d
single_new x d e = subst (λ n. Contains (x ∷ []) n) e (here x [])

takes_cases : (a : Argument) (o : Option Formal) → takes_in a o ≡ true → (f : Formal) × (o ≡ Some f) × (f.number ≡ a.number)
takes_cases a None e = absurd (let h = e in cc)
takes_cases a (Some f) e = (f, refl, eqb-true f.number a.number e)

module _ (next within : Next) (root : ℕ) (T : Tables) (reach : List Block) (A : Accesses) (C : Calls) (P : Passing) (live : List Call)
    (is_reach : IsReach next root reach)
    (e_live : live ≡ filter (is_live T root reach) C.calls.now)
    (handing : AreHanding next C.named.now C.arguments.now P.arguments.now)
    (by_site : AreBy site_of P.arguments.now P.by_site.now)
    (e_formals : P.formals.now ≡ C.formals.now)
    (by_callee : AreBy taker_of C.formals.now P.by_callee.now)
    (sources : AreSources (steps next within root) T A C.named.now P.sources.now)
    (taken : AreTaken (steps next within root) T A C.formals.now P.taken.now) where
  abbrev G : Steps
  G = steps next within root

  to_handed : (a : Argument) (d : ℕ) (o : Option ℕ) → HandsFrom next C.named.now a o → Contains (definitions_of (a.occurrence ∷ []) P.sources.now o) d → HandsOver G T A C.named.now a o d
  to_handed a d None h is = single a.occurrence d is
  to_handed a d (Some n) h is =
      let w = (sources n d).0 is in
      let same : h.0 ≡ w.0 = (let p = h.1 in let q = w.1 in cc) in
      (w.0, w.1, w.2, subst (λ (r : Access). Path next r.point a.at) same h.2)

  from_handed : (a : Argument) (d : ℕ) (o : Option ℕ) → HandsOver G T A C.named.now a o d → HandsFrom next C.named.now a o × Contains (definitions_of (a.occurrence ∷ []) P.sources.now o) d
  from_handed a d None e = (tt, single_new a.occurrence d e)
  from_handed a d (Some n) w = ((w.0, w.1, w.3), (sources n d).1 (w.0, w.1, w.2))

  pub to_parameter : (x : Row) → Each live (OfCall P) x → IsParameterRow G T A C x
  to_parameter x w =
      let c = w.0 in
      let call = live_only next within root T reach is_reach C.calls.now live e_live c w.1 in
      let i = w.2.0 in
      let a = w.2.2.0 in
      let at = w.2.2.1 in
      let of_formal = w.2.2.2 in
      let j = of_formal.0 in
      let of_definition = of_formal.2.1 in
      let d = of_definition.0 in
      let of_reader = of_definition.2 in
      let u = of_reader.0 in
      let s = (by_site c.site i).0 w.2.1 in
      let same_argument : s.0 ≡ a = (let p = s.1 in let q = at in cc) in
      let f = takes_cases a (slice_get P.formals.now j) of_formal.2.0 in
      let at_formal : slice_get C.formals.now j ≡ Some f.0 = ap (λ (fs : List Formal). slice_get fs j) (sym e_formals) ∙ f.1 in
      let g = (by_callee c.callee j).0 of_formal.1 in
      let same_formal : g.0 ≡ f.0 = (let p = g.1 in let q = at_formal in cc) in
      let r = (taken j u).0 of_reader.1 in
      let same_read : r.0 ≡ f.0 = (let p = r.1 in let q = at_formal in cc) in
      let h = (handing a).0 (contains_at P.arguments.now i a at) in
      subst (IsParameterRow G T A C) of_reader.2 (record {
        call = c;
        argument = a;
        formal = f.0;
        may_call = call.0;
        passes = h.0;
        takes = contains_at C.formals.now j f.0 at_formal;
        is_call = call.1;
        is_argument = (sym (ap site_of same_argument) ∙ s.2, refl);
        is_formal = (sym (ap taker_of same_formal) ∙ g.2, f.2);
        read = subst (λ (z : Formal). ReadsFirst G T A z u) same_read r.2;
        handed = to_handed a d a.named h.1 of_definition.1;
      })

  pub from_parameter : (x : Row) → IsParameterRow G T A C x → Each live (OfCall P) x
  from_parameter (row.Parameter d s k g u) p =
      let c = p.call in
      let a = p.argument in
      let f = p.formal in
      let handed = from_handed a d a.named p.handed in
      let kept = (handing a).1 (p.passes, handed.0) in
      let at = place P.arguments.now a kept in
      let j = p.takes.0 in
      let at_formal = place C.formals.now f p.takes in
      let same : parameter c a d u ≡ row.Parameter d s k g u = (let e = p.is_call.is_site in let e' = p.is_call.is_callee in let e'' = p.is_argument.1 in cc) in (
        c,
        live_new next within root T reach is_reach C.calls.now live e_live c s g p.may_call p.is_call,
        (
          kept.0,
          (by_site c.site kept.0).1 (a, at, p.is_argument.0 ∙ sym p.is_call.is_site),
          (
            a,
            at,
            (
              j,
              (by_callee c.callee j).1 (f, at_formal, p.is_formal.0 ∙ sym p.is_call.is_callee),
              (
                ap (λ (fs : List Formal). takes_in a (slice_get fs j)) e_formals ∙ ap (takes_in a) at_formal ∙ eq-eqb f.number a.number (p.is_formal.1 ∙ sym p.is_argument.1),
                (d, handed.1, (u, (taken j u).1 (f, at_formal, p.read), same)),
              ),
            ),
          ),
        ),
      )
  from_parameter (row.Call s g) p = absurd p
  from_parameter (row.Shared d u o) p = absurd p
  from_parameter (row.Return d s g) p = absurd p

  pub if_parameters : {X E : Type 0} (r : Result X E) (old new : List Row) → OnOk r (Gains old new (Each live (OfCall P))) → OnOk r (Gains old new (IsParameterRow G T A C))
  if_parameters r old new = gains_as_ok r old new (Each live (OfCall P)) (IsParameterRow G T A C) to_parameter from_parameter

  pub more_parameters : (old : List Row) (most : ℕ) → HasMore row_cmp (Or old (Each live (OfCall P))) most → HasMore row_cmp (Or old (IsParameterRow G T A C)) most
  more_parameters old most = more_as row_cmp most (Or old (Each live (OfCall P))) (Or old (IsParameterRow G T A C))
      (or_as row_cmp most old (Each live (OfCall P)) (IsParameterRow G T A C) to_parameter)
