use Rattle.std.proofs.Common.{Err, sym, ap, ◌∙◌}
use Rattle.std.proofs.lemmas.Result.{err_from_is_err_and}
use Rattle.cc_rows.proofs.Gained.{gains_none, more_now}
use Rattle.cc_flows.specs.Flows.{IsAny, found_cmp}
use Rattle.cc_flows.proofs.Gaining.{IsBelow, any_never, below_none, below_on, below_all, below_any}
use Rattle.cc_flows.proofs.flow.gather.Goals as goal

pub returns-then-is_empty-clause-found : goal.returns-then-is_empty-clause-found
returns-then-is_empty-clause-found c = gains_none c.args.found.now.items (IsAny c.args.definitions.now c.args.bits.now c.args.reader)
    (any_never c.args.definitions.now c.args.bits.now c.args.reader (c.is_empty.ensures.0 c.if-is_empty.true))

pub loop-i-init : goal.loop-i-init
loop-i-init c = below_none c.args.definitions.now c.args.bits.now c.args.reader c.args.found.now.items

pub loop-i-preserved : goal.loop-i-preserved
loop-i-preserved c = below_on c.args.definitions.now c.args.bits.now c.args.reader c.loop-i.i c.args.found.now.items c.loop-i.found.items c.gather_one.new.found.items c.loop-i.invariant c.in_ok-gather_one.ensures.found

pub returns-clause-found : goal.returns-clause-found
returns-clause-found c = below_all c.args.definitions.now c.args.bits.now c.args.reader c.loop-i.i c.args.found.now.items c.loop-i.found.items c.loop-i-test.false c.loop-i.invariant

pub returns-in_err-gather_one-clause-many : goal.returns-in_err-gather_one-clause-many
returns-in_err-gather_one-clause-many c = λ is.
    let p = err_from_is_err_and c.from_residual.result c.from_residual.ensures.1 in
    more_now found_cmp c.args.most c.args.found.now.items c.loop-i.found.items (IsBelow c.args.definitions.now c.args.bits.now c.args.reader c.loop-i.i) (IsAny c.args.definitions.now c.args.bits.now c.args.reader)
    c.loop-i.invariant (below_any c.args.definitions.now c.args.bits.now c.args.reader c.loop-i.i)
    (c.in_err-gather_one.ensures.many (ap Err (sym p.2) ∙ sym p.1 ∙ is))
