use Rattle.std.proofs.Common.{ℕ, Err, take, slice_index_or, sym, ap, ◌∙◌, subst}
use Rattle.std.proofs.lemmas.Option.{slice_get-get_or}
use Rattle.std.proofs.lemmas.List.{take_all}
use Rattle.std.proofs.lemmas.Result.{err_from_is_err_and}
use Rattle.cc_rows.specs.Gains.{Gains, Each}
use Rattle.cc_rows.specs.Order.{row_cmp}
use Rattle.cc_rows.proofs.Gained.{each_none, each_on, each_in, more_now}
use Rattle.cc_lanes.proofs.Listing.{take_next}
use Rattle.std.specs.Prelude.{Contains}
use Rattle.cc_listing_calls.proofs.Ordering.{more_rows}
use Rattle.cc_listing_calls.specs.Givings.{IsReturnOf}
use Rattle.cc_listing_calls.proofs.giving.add_given.Goals as goal

pub loop-definition-init : goal.loop-definition-init
loop-definition-init c = each_none (IsReturnOf c.args.call) c.args.rows.now.items

pub loop-definition-preserved : goal.loop-definition-preserved
loop-definition-preserved c =
    let items = c.args.definitions.now in
    let k = c.loop-definition.definition-index in
    let x : ℕ = slice_index_or items k 0 in
    let at = slice_get-get_or items k 0 c.loop-definition-test.true in
    rw (take_next items k x at) (each_on (IsReturnOf c.args.call) (take k items) x c.args.rows.now.items c.loop-definition.rows.items c.add_row.new.rows.items c.loop-definition.invariant (rw c.return_row.ensures at c.in_ok-add_row.ensures.added))

pub returns-clause-rows : goal.returns-clause-rows
returns-clause-rows c = subst (λ xs. Gains c.args.rows.now.items c.loop-definition.rows.items (Each xs (IsReturnOf c.args.call))) (take_all c.loop-definition.definition-index c.args.definitions.now c.loop-definition-test.false) c.loop-definition.invariant

pub returns-in_err-add_row-clause-many : goal.returns-in_err-add_row-clause-many
returns-in_err-add_row-clause-many c = λ is.
    let items = c.args.definitions.now in
    let k = c.loop-definition.definition-index in
    let P = (IsReturnOf c.args.call) in
    let p = err_from_is_err_and c.from_residual.result c.from_residual.ensures.1 in
    more_now row_cmp c.args.most c.args.rows.now.items c.loop-definition.rows.items (Each (take k items) P) (Each items P)
    c.loop-definition.invariant (each_in P items k) (more_rows (Contains c.loop-definition.rows.items) c.args.most (c.in_err-add_row.ensures.many (ap Err (sym p.2) ∙ sym p.1 ∙ is)))
