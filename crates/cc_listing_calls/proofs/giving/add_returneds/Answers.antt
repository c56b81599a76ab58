use Rattle.std.proofs.Common.{ℕ, Err, take, slice_index_or, sym, ap, ◌∙◌, subst}
use Rattle.std.proofs.lemmas.Option.{slice_get-get_or}
use Rattle.std.proofs.lemmas.List.{take_all}
use Rattle.std.proofs.lemmas.Result.{err_from_is_err_and}
use Rattle.cc_rows.specs.Gains.{Gains, Each}
use Rattle.cc_rows.specs.Order.{row_cmp}
use Rattle.cc_rows.proofs.Gained.{each_none, each_on, each_in, each_one, more_later}
use Rattle.cc_lanes.proofs.Listing.{take_next}
use Rattle.cc_listing_calls.specs.Givings.{OfReturned}
use Rattle.cc_listing_calls.proofs.giving.add_returneds.Goals as goal

pub loop-returned-init : goal.loop-returned-init
loop-returned-init c = each_none (OfReturned c.args.giving c.args.call) c.args.rows.now.items

pub loop-returned-preserved : goal.loop-returned-preserved
loop-returned-preserved c =
    let items = c.args.returns.now in
    let k = c.loop-returned.returned-index in
    let x : ℕ = slice_index_or items k 0 in
    let at = slice_get-get_or items k 0 c.loop-returned-test.true in
    rw (take_next items k x at) (each_on (OfReturned c.args.giving c.args.call) (take k items) x c.args.rows.now.items c.loop-returned.rows.items c.add_returned.new.rows.items c.loop-returned.invariant c.in_ok-add_returned.ensures.rows)

pub returns-clause-rows : goal.returns-clause-rows
returns-clause-rows c = subst (λ xs. Gains c.args.rows.now.items c.loop-returned.rows.items (Each xs (OfReturned c.args.giving c.args.call))) (take_all c.loop-returned.returned-index c.args.returns.now c.loop-returned-test.false) c.loop-returned.invariant

pub returns-in_err-add_returned-clause-many : goal.returns-in_err-add_returned-clause-many
returns-in_err-add_returned-clause-many c = λ is.
    let items = c.args.returns.now in
    let k = c.loop-returned.returned-index in
    let x : ℕ = slice_index_or items k 0 in
    let P = (OfReturned c.args.giving c.args.call) in
    let p = err_from_is_err_and c.from_residual.result c.from_residual.ensures.1 in
    more_later row_cmp c.args.most c.args.rows.now.items c.loop-returned.rows.items (Each (take k items) P) (P x) (Each items P)
    c.loop-returned.invariant (each_in P items k) (each_one P items k x (slice_get-get_or items k 0 c.loop-returned-test.true))
    (c.in_err-add_returned.ensures.many (ap Err (sym p.2) ∙ sym p.1 ∙ is))
