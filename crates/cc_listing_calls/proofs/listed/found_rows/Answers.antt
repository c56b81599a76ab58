use Rattle.std.proofs.Common.{Err, ap}
use Rattle.std.proofs.lemmas.Result.{err_from_is_err_and}
use Rattle.cc_rows.specs.declared.stop.Stop.TheVariants.{TooMany}
use Rattle.cc_listing_shared.proofs.Truth.{error_is}
use Rattle.cc_listing_calls.specs.Views.{steps_of, accesses_of}
use Rattle.cc_listing_calls.proofs.Joining.{joined, more_called, more_returned, more_passed}
use Rattle.cc_listing_calls.proofs.listed.found_rows.Goals as goal

pub returns-in_err-call_rows-clause-many : goal.returns-in_err-call_rows-clause-many
returns-in_err-call_rows-clause-many c = λ is.
    let p = err_from_is_err_and c.from_residual-in_err-call_rows.result c.from_residual-in_err-call_rows.ensures.1 in
    let too = ap Err (error_is c.from_residual-in_err-call_rows.result p.0 c.in_err-call_rows.field-0.0 TooMany p.1 p.2 is) in
    more_called (steps_of c.args.roads c.args.root) c.args.tables.now (accesses_of c.args.uses) c.args.calls c.new-rows.result.items c.args.most c.new-rows.ensures.items (c.in_err-call_rows.ensures.many too c.args.roads.next.now c.args.roads.within.now c.requires.reach)

pub returns-in_err-return_rows-clause-many : goal.returns-in_err-return_rows-clause-many
returns-in_err-return_rows-clause-many c = λ is.
    let p = err_from_is_err_and c.from_residual-in_err-return_rows.result c.from_residual-in_err-return_rows.ensures.1 in
    let too = ap Err (error_is c.from_residual-in_err-return_rows.result p.0 c.in_err-return_rows.field-0.0 TooMany p.1 p.2 is) in
    more_returned (steps_of c.args.roads c.args.root) c.args.tables.now (accesses_of c.args.uses) c.args.calls c.new-rows.result.items c.call_rows.new.rows.items c.return_rows.new.rows.items c.new-rows.ensures.items (c.in_ok-call_rows.ensures.rows c.args.roads.next.now c.args.roads.within.now c.requires.reach)
    c.args.most (c.in_err-return_rows.ensures.many too c.args.roads.next.now c.args.roads.within.now c.args.uses.writes.now c.args.uses.given.now c.args.uses.passed.now c.args.uses.reads.now c.args.calls.named.now c.requires.reach (rw c.as_slice.ensures.value c.in_ok-sources.ensures))

pub parameter_rows-requires-clause-sources : goal.parameter_rows-requires-clause-sources
parameter_rows-requires-clause-sources c = rw c.as_slice-2.ensures.value c.in_ok-sources.ensures

pub returns-in_err-parameter_rows-clause-many : goal.returns-in_err-parameter_rows-clause-many
returns-in_err-parameter_rows-clause-many c = λ is.
    let p = err_from_is_err_and c.from_residual-in_err-parameter_rows.result c.from_residual-in_err-parameter_rows.ensures.1 in
    let too = ap Err (error_is c.from_residual-in_err-parameter_rows.result p.0 c.in_err-parameter_rows.field-0.0 TooMany p.1 p.2 is) in
    more_passed (steps_of c.args.roads c.args.root) c.args.tables.now (accesses_of c.args.uses) c.args.calls c.new-rows.result.items c.call_rows.new.rows.items c.return_rows.new.rows.items c.new-rows.ensures.items (c.in_ok-call_rows.ensures.rows c.args.roads.next.now c.args.roads.within.now c.requires.reach)
    (c.in_ok-return_rows.ensures.rows c.args.roads.next.now c.args.roads.within.now c.args.uses.writes.now c.args.uses.given.now c.args.uses.passed.now c.args.uses.reads.now c.args.calls.named.now c.requires.reach (rw c.as_slice.ensures.value c.in_ok-sources.ensures))
    c.args.most (c.in_err-parameter_rows.ensures.many too)

pub returns-clause-listed : goal.returns-clause-listed
returns-clause-listed c = joined (steps_of c.args.roads c.args.root) c.args.tables.now (accesses_of c.args.uses) c.args.calls c.new-rows.result.items c.call_rows.new.rows.items c.return_rows.new.rows.items c.new-rows.ensures.items (c.in_ok-call_rows.ensures.rows c.args.roads.next.now c.args.roads.within.now c.requires.reach)
    (c.in_ok-return_rows.ensures.rows c.args.roads.next.now c.args.roads.within.now c.args.uses.writes.now c.args.uses.given.now c.args.uses.passed.now c.args.uses.reads.now c.args.calls.named.now c.requires.reach (rw c.as_slice.ensures.value c.in_ok-sources.ensures))
    c.parameter_rows.new.rows.items c.in_ok-parameter_rows.ensures.rows
