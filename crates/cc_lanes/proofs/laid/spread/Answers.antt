use Rattle.std.proofs.Common.{ℕ, ◌≡◌, ◌∙◌, List, ap, take, slice_index_or, subst}
use Rattle.cc_flows.specs.Masks.{row_of}
use Rattle.std.specs.Prelude.{Contains}
use Rattle.std.proofs.lemmas.Option.{slice_get-get_or}
use Rattle.std.proofs.lemmas.List.{take_all}
use Rattle.cc_rows.specs.Gains.{Gains, Each}
use Rattle.cc_rows.proofs.Gained.{each_none, each_on, gains_all}
use Rattle.cc_listed.specs.declared.table.Access.{Access}
use Rattle.cc_lanes.specs.Spreading.{IsSpread}
use Rattle.cc_lanes.proofs.Listing.{take_next}
use Rattle.cc_lanes.proofs.laid.spread.Goals as goal

pub loop-access-init : goal.loop-access-init
loop-access-init c = each_none (IsSpread c.args.tables.now c.args.lanes.now c.args.whose) c.new-out.result.items

pub loop-access-preserved : goal.loop-access-preserved
loop-access-preserved c =
    let items = c.args.accesses.now in
    let k = c.loop-access.access-index in
    let a : Access = slice_index_or items k (record { point = 0; slot = 0; occurrence = 0 }) in
    let at = slice_get-get_or items k (record { point = 0; slot = 0; occurrence = 0 }) c.loop-access-test.true in
    rw (take_next items k a at) (each_on (IsSpread c.args.tables.now c.args.lanes.now c.args.whose) (take k items) a c.new-out.result.items c.loop-access.out.items c.put_into_all.new.out.items c.loop-access.invariant
    (rw (c.lanes_at.ensures ∙ ap (λ (rows : List (List ℕ)). row_of rows a.slot) c.as_slice.ensures.value) at c.in_ok-put_into_all.ensures))

pub returns : goal.returns
returns c = gains_all c.new-out.result.items c.loop-access.out.items (Each c.args.accesses.now (IsSpread c.args.tables.now c.args.lanes.now c.args.whose)) c.new-out.ensures.items
    (subst (λ xs. Gains c.new-out.result.items c.loop-access.out.items (Each xs (IsSpread c.args.tables.now c.args.lanes.now c.args.whose))) (take_all c.loop-access.access-index c.args.accesses.now c.loop-access-test.false) c.loop-access.invariant)
