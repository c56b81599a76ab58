use Rattle.std.proofs.Common.{Err, sym, ap, ◌∙◌}
use Rattle.std.proofs.lemmas.Result.{err_from_is_err_and}
use Rattle.cc_listing_shared.proofs.Law.{if_listed, more_of}
use Rattle.cc_listing_shared.proofs.shared.shared_rows.Goals as goal

pub returns-clause-listed : goal.returns-clause-listed
returns-clause-listed c = if_listed c.args.routes.next.now c.args.routes.root c.args.tables.now c.args.uses.writes.now c.args.uses.given.now c.args.uses.passed.now c.args.uses.reads.now c.in_ok-found.found.items c.limited.result c.limited.ensures.same c.in_ok-found.ensures.listed

pub returns-clause-many : goal.returns-clause-many
returns-clause-many c = λ is. more_of c.args.routes.next.now c.args.routes.root c.args.tables.now c.args.uses.writes.now c.args.uses.given.now c.args.uses.passed.now c.args.uses.reads.now c.in_ok-found.found.items c.args.most c.in_ok-found.ensures.listed (c.limited.ensures.many is)

pub returns-in_err-found-clause-many : goal.returns-in_err-found-clause-many
returns-in_err-found-clause-many c = λ is.
    let p = err_from_is_err_and c.from_residual.result c.from_residual.ensures.1 in
    c.in_err-found.ensures.many (ap Err (sym p.2) ∙ sym p.1 ∙ is)
