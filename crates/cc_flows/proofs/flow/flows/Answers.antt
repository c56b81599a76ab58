use Rattle.std.proofs.Common.{◌≡◌, ◌≤◌, List, Err, take, sym, ap, ◌∙◌, subst, arith}
use Rattle.std.specs.Prelude.{Contains, slice_range}
use Rattle.std.proofs.lemmas.List.{take_all}
use Rattle.std.proofs.lemmas.Result.{err_from_is_err_and}
use Rattle.cc_rows.specs.Gains.{Gains}
use Rattle.cc_flows.specs.Flows.{Reaches, found_cmp}
use Rattle.cc_rows.proofs.Gained.{take_in}
use Rattle.cc_flows.proofs.Lists.{range_in}
use Rattle.cc_rows.proofs.Gained.{more_later}
use Rattle.cc_flows.proofs.Flowing.{batch_on, batch_none, reaches_in}
use Rattle.cc_flows.proofs.flow.flows.Goals as goal

pub loop-first-init : goal.loop-first-init
loop-first-init c = record { within = omega arith; exact = batch_none c.args.ways.next.now c.args.ways.wipes.now c.args.reads.now c.args.found.now.items }

pub batch-requires-clause-definitions : goal.batch-requires-clause-definitions
batch-requires-clause-definitions c = λ d is. c.requires.definitions d (range_in c.args.definitions.now c.loop-first.first c.end_of-last.result d is)

pub loop-first-preserved : goal.loop-first-preserved
loop-first-preserved c = record {
  within = c.end_of-last.ensures.within;
  exact = batch_on c.args.ways.next.now c.args.ways.wipes.now c.args.reads.now c.args.definitions.now c.loop-first.first c.end_of-last.result c.args.found.now.items c.loop-first.found.items c.batch.new.found.items (let lt = c.end_of-last.ensures.more in omega arith) c.loop-first.invariant.exact c.in_ok-batch.ensures.found;
}

pub returns-clause-found : goal.returns-clause-found
returns-clause-found c = subst (λ ds. Gains c.args.found.now.items c.loop-first.found.items (Reaches c.args.ways.next.now c.args.ways.wipes.now c.args.reads.now ds)) (take_all c.loop-first.first c.args.definitions.now c.loop-first-test.false) c.loop-first.invariant.exact

pub returns-in_err-batch-clause-many : goal.returns-in_err-batch-clause-many
returns-in_err-batch-clause-many c = λ is.
    let next = c.args.ways.next.now in
    let wipes = c.args.ways.wipes.now in
    let reads = c.args.reads.now in
    let ds = c.args.definitions.now in
    let first = c.loop-first.first in
    let last = c.end_of-last.result in
    let p = err_from_is_err_and c.from_residual.result c.from_residual.ensures.1 in
    more_later found_cmp c.args.most c.args.found.now.items c.loop-first.found.items (Reaches next wipes reads (take first ds)) (Reaches next wipes reads (slice_range ds first last)) (Reaches next wipes reads ds)
    c.loop-first.invariant.exact
    (λ f h. reaches_in next wipes reads (take first ds) ds f (λ d has. take_in ds first d has) h)
    (λ f h. reaches_in next wipes reads (slice_range ds first last) ds f (λ d has. range_in ds first last d has) h)
    (c.in_err-batch.ensures.many (ap Err (sym p.2) ∙ sym p.1 ∙ is))
