use Rattle.std.proofs.Common.{ℕ, Err, take, slice_index_or, sym, ap, ◌∙◌, subst, false}
use Rattle.std.proofs.lemmas.Option.{slice_get-get_or}
use Rattle.std.proofs.lemmas.List.{take_all}
use Rattle.std.proofs.lemmas.Result.{err_from_is_err_and}
use Rattle.cc_rows.specs.Gains.{Gains, Each}
use Rattle.cc_rows.specs.Order.{row_cmp}
use Rattle.cc_rows.proofs.Gained.{each_none, each_on, each_in, each_one, more_later}
use Rattle.cc_listed.specs.declared.calls.Call.{Call}
use Rattle.cc_lanes.proofs.Listing.{take_next}
use Rattle.cc_listing_calls.specs.Givings.{OfAsking}
use Rattle.cc_listing_calls.proofs.giving.add_returns.Goals as goal

pub loop-call-init : goal.loop-call-init
loop-call-init c = each_none (OfAsking c.args.giving) c.args.rows.now.items

pub loop-call-preserved : goal.loop-call-preserved
loop-call-preserved c =
    let items = c.args.calls.now in
    let k = c.loop-call.call-index in
    let x : Call = slice_index_or items k (record { site = 0; callee = 0; at = 0; used = false }) in
    let at = slice_get-get_or items k (record { site = 0; callee = 0; at = 0; used = false }) c.loop-call-test.true in
    rw (take_next items k x at) (each_on (OfAsking c.args.giving) (take k items) x c.args.rows.now.items c.loop-call.rows.items c.add_asked.new.rows.items c.loop-call.invariant c.in_ok-add_asked.ensures.rows)

pub returns-clause-rows : goal.returns-clause-rows
returns-clause-rows c = subst (λ xs. Gains c.args.rows.now.items c.loop-call.rows.items (Each xs (OfAsking c.args.giving))) (take_all c.loop-call.call-index c.args.calls.now c.loop-call-test.false) c.loop-call.invariant

pub returns-in_err-add_asked-clause-many : goal.returns-in_err-add_asked-clause-many
returns-in_err-add_asked-clause-many c = λ is.
    let items = c.args.calls.now in
    let k = c.loop-call.call-index in
    let x : Call = slice_index_or items k (record { site = 0; callee = 0; at = 0; used = false }) in
    let P = (OfAsking c.args.giving) in
    let p = err_from_is_err_and c.from_residual.result c.from_residual.ensures.1 in
    more_later row_cmp c.args.most c.args.rows.now.items c.loop-call.rows.items (Each (take k items) P) (P x) (Each items P)
    c.loop-call.invariant (each_in P items k) (each_one P items k x (slice_get-get_or items k (record { site = 0; callee = 0; at = 0; used = false }) c.loop-call-test.true))
    (c.in_err-add_asked.ensures.many (ap Err (sym p.2) ∙ sym p.1 ∙ is))
