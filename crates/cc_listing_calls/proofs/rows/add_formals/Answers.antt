use Rattle.std.proofs.Common.{ℕ, Err, take, slice_index_or, sym, ap, ◌∙◌, subst}
use Rattle.std.proofs.lemmas.Option.{slice_get-get_or}
use Rattle.std.proofs.lemmas.List.{take_all}
use Rattle.std.proofs.lemmas.Result.{err_from_is_err_and}
use Rattle.cc_rows.specs.Gains.{Gains, Each}
use Rattle.cc_rows.specs.Order.{row_cmp}
use Rattle.cc_rows.proofs.Gained.{each_none, each_on, each_in, each_one, more_later}
use Rattle.cc_lanes.proofs.Listing.{take_next}
use Rattle.cc_listing_calls.specs.Rows.{OfFormal}
use Rattle.cc_listing_calls.proofs.rows.add_formals.Goals as goal

pub loop-formal-init : goal.loop-formal-init
loop-formal-init c = each_none (OfFormal c.args.passing c.args.call c.args.argument) c.args.rows.now.items

pub loop-formal-preserved : goal.loop-formal-preserved
loop-formal-preserved c =
    let items = c.args.formals.now in
    let k = c.loop-formal.formal-index in
    let x : ℕ = slice_index_or items k 0 in
    let at = slice_get-get_or items k 0 c.loop-formal-test.true in
    rw (take_next items k x at) (each_on (OfFormal c.args.passing c.args.call c.args.argument) (take k items) x c.args.rows.now.items c.loop-formal.rows.items c.add_formal.new.rows.items c.loop-formal.invariant c.in_ok-add_formal.ensures.rows)

pub returns-clause-rows : goal.returns-clause-rows
returns-clause-rows c = subst (λ xs. Gains c.args.rows.now.items c.loop-formal.rows.items (Each xs (OfFormal c.args.passing c.args.call c.args.argument))) (take_all c.loop-formal.formal-index c.args.formals.now c.loop-formal-test.false) c.loop-formal.invariant

pub returns-in_err-add_formal-clause-many : goal.returns-in_err-add_formal-clause-many
returns-in_err-add_formal-clause-many c = λ is.
    let items = c.args.formals.now in
    let k = c.loop-formal.formal-index in
    let x : ℕ = slice_index_or items k 0 in
    let P = (OfFormal c.args.passing c.args.call c.args.argument) in
    let p = err_from_is_err_and c.from_residual.result c.from_residual.ensures.1 in
    more_later row_cmp c.args.most c.args.rows.now.items c.loop-formal.rows.items (Each (take k items) P) (P x) (Each items P)
    c.loop-formal.invariant (each_in P items k) (each_one P items k x (slice_get-get_or items k 0 c.loop-formal-test.true))
    (c.in_err-add_formal.ensures.many (ap Err (sym p.2) ∙ sym p.1 ∙ is))
