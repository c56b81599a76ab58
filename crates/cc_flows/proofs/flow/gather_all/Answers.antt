use Rattle.std.proofs.Common.{Err, take, slice_index_or, sym, ap, ◌∙◌, subst}
use Rattle.std.proofs.lemmas.Option.{slice_get-get_or}
use Rattle.std.proofs.lemmas.List.{take_all}
use Rattle.std.proofs.lemmas.Result.{err_from_is_err_and}
use Rattle.cc_rows.specs.Gains.{Gains, Each}
use Rattle.cc_rows.proofs.Gained.{each_none, each_on, each_in, each_one, more_later}
use Rattle.cc_flows.specs.declared.mask.Touch.{Touch}
use Rattle.cc_flows.specs.Flows.{IsRead, found_cmp}
use Rattle.cc_flows.proofs.Lists.{take_next}
use Rattle.cc_flows.proofs.flow.gather_all.Goals as goal

pub loop-read-init : goal.loop-read-init
loop-read-init c = each_none (IsRead c.args.definitions.now c.args.reach.now c.args.masks.now) c.args.found.now.items

pub loop-read-preserved : goal.loop-read-preserved
loop-read-preserved c =
    let items = c.args.reads.now in
    let k = c.loop-read.read-index in
    let r : Touch = slice_index_or items k (record { point = 0; slot = 0; node = 0; object = 0 }) in
    let at = slice_get-get_or items k (record { point = 0; slot = 0; node = 0; object = 0 }) c.loop-read-test.true in
    rw (take_next items k r at) (each_on (IsRead c.args.definitions.now c.args.reach.now c.args.masks.now) (take k items) r c.args.found.now.items c.loop-read.found.items c.gather_read.new.found.items c.loop-read.invariant c.in_ok-gather_read.ensures.found)

pub returns-clause-found : goal.returns-clause-found
returns-clause-found c = subst (λ xs. Gains c.args.found.now.items c.loop-read.found.items (Each xs (IsRead c.args.definitions.now c.args.reach.now c.args.masks.now))) (take_all c.loop-read.read-index c.args.reads.now c.loop-read-test.false) c.loop-read.invariant

pub returns-in_err-gather_read-clause-many : goal.returns-in_err-gather_read-clause-many
returns-in_err-gather_read-clause-many c = λ is.
    let items = c.args.reads.now in
    let k = c.loop-read.read-index in
    let P = IsRead c.args.definitions.now c.args.reach.now c.args.masks.now in
    let r : Touch = slice_index_or items k (record { point = 0; slot = 0; node = 0; object = 0 }) in
    let at = slice_get-get_or items k (record { point = 0; slot = 0; node = 0; object = 0 }) c.loop-read-test.true in
    let p = err_from_is_err_and c.from_residual.result c.from_residual.ensures.1 in
    more_later found_cmp c.args.most c.args.found.now.items c.loop-read.found.items (Each (take k items) P) (P r) (Each items P)
    c.loop-read.invariant (each_in P items k) (each_one P items k r at)
    (c.in_err-gather_read.ensures.many (ap Err (sym p.2) ∙ sym p.1 ∙ is))
