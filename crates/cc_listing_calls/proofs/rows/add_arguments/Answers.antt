use Rattle.std.proofs.Common.{ℕ, Err, take, slice_index_or, sym, ap, ◌∙◌, subst}
use Rattle.std.proofs.lemmas.Option.{slice_get-get_or}
use Rattle.std.proofs.lemmas.List.{take_all}
use Rattle.std.proofs.lemmas.Result.{err_from_is_err_and}
use Rattle.cc_rows.specs.Gains.{Gains, Each}
use Rattle.cc_rows.specs.Order.{row_cmp}
use Rattle.cc_rows.proofs.Gained.{each_none, each_on, each_in, each_one, more_later}
use Rattle.cc_lanes.proofs.Listing.{take_next}
use Rattle.cc_listing_calls.specs.Rows.{OfArgument}
use Rattle.cc_listing_calls.proofs.rows.add_arguments.Goals as goal

pub loop-argument-init : goal.loop-argument-init
loop-argument-init c = each_none (OfArgument c.args.passing c.args.call) c.args.rows.now.items

pub loop-argument-preserved : goal.loop-argument-preserved
loop-argument-preserved c =
    let items = c.args.arguments.now in
    let k = c.loop-argument.argument-index in
    let x : ℕ = slice_index_or items k 0 in
    let at = slice_get-get_or items k 0 c.loop-argument-test.true in
    rw (take_next items k x at) (each_on (OfArgument c.args.passing c.args.call) (take k items) x c.args.rows.now.items c.loop-argument.rows.items c.add_argument.new.rows.items c.loop-argument.invariant c.in_ok-add_argument.ensures.rows)

pub returns-clause-rows : goal.returns-clause-rows
returns-clause-rows c = subst (λ xs. Gains c.args.rows.now.items c.loop-argument.rows.items (Each xs (OfArgument c.args.passing c.args.call))) (take_all c.loop-argument.argument-index c.args.arguments.now c.loop-argument-test.false) c.loop-argument.invariant

pub returns-in_err-add_argument-clause-many : goal.returns-in_err-add_argument-clause-many
returns-in_err-add_argument-clause-many c = λ is.
    let items = c.args.arguments.now in
    let k = c.loop-argument.argument-index in
    let x : ℕ = slice_index_or items k 0 in
    let P = (OfArgument c.args.passing c.args.call) in
    let p = err_from_is_err_and c.from_residual.result c.from_residual.ensures.1 in
    more_later row_cmp c.args.most c.args.rows.now.items c.loop-argument.rows.items (Each (take k items) P) (P x) (Each items P)
    c.loop-argument.invariant (each_in P items k) (each_one P items k x (slice_get-get_or items k 0 c.loop-argument-test.true))
    (c.in_err-add_argument.ensures.many (ap Err (sym p.2) ∙ sym p.1 ∙ is))
