use Rattle.std.proofs.Common.{Err, sym, ap, ◌∙◌}
use Rattle.std.proofs.lemmas.Result.{err_from_is_err_and}
use Rattle.cc_rows.specs.declared.stop.Stop.TheVariants.{TooMany}
use Rattle.cc_listing_shared.proofs.Truth.{error_is}
use Rattle.cc_listing_rows.proofs.Joined.{all_listed, more_called, more_shared}
use Rattle.cc_listing_rows.proofs.listed.found_rows.Goals as goal

pub returns-in_err-rows-clause-many : goal.returns-in_err-rows-clause-many
returns-in_err-rows-clause-many c = λ is.
    let p = err_from_is_err_and c.from_residual.result c.from_residual.ensures.1 in
    more_called c.args.roads.next.now c.args.roads.within.now c.args.root c.args.tables.now c.args.uses.writes.now c.args.uses.given.now c.args.uses.passed.now c.args.uses.reads.now c.args.calls c.args.most (c.in_err-rows.ensures.many (ap Err (error_is c.from_residual.result p.0 c.in_err-rows.field-0.0 TooMany p.1 p.2 is)))

pub returns-in_err-found-clause-many : goal.returns-in_err-found-clause-many
returns-in_err-found-clause-many c = λ is.
    let p = err_from_is_err_and c.from_residual-in_err-found.result c.from_residual-in_err-found.ensures.1 in
    more_shared c.args.roads.next.now c.args.roads.within.now c.args.root c.args.tables.now c.args.uses.writes.now c.args.uses.given.now c.args.uses.passed.now c.args.uses.reads.now c.args.calls c.args.most (c.in_err-found.ensures.many (ap Err (error_is c.from_residual-in_err-found.result p.0 c.in_err-found.field-0.0 TooMany p.1 p.2 is)))

pub returns-clause-listed : goal.returns-clause-listed
returns-clause-listed c = all_listed c.args.roads.next.now c.args.roads.within.now c.args.root c.args.tables.now c.args.uses.writes.now c.args.uses.given.now c.args.uses.passed.now c.args.uses.reads.now c.args.calls c.in_ok-rows.rows.items c.in_ok-found.found.items c.as_slice.result.now c.in_ok-more.more.items c.as_slice-2.result.now c.extend_from_slice.new.self.items
    c.in_ok-rows.ensures.listed c.in_ok-found.ensures.listed c.as_slice.ensures.value c.in_ok-more.ensures c.as_slice-2.ensures.value c.in_ok-extend_from_slice.ensures.items
