use Rattle.std.proofs.lemmas.Result.{err_from_is_err_and}
use Rattle.cc_interp.specs.Tests.{fresh}
use Rattle.cc_interp.proofs.Whole.{none_begun}
use Rattle.cc_interp.proofs.run.run_acts.Goals as goal

pub returns-in_err-fresh-clause-err : goal.returns-in_err-fresh-clause-err
returns-in_err-fresh-clause-err g c =
    let a = c.args in
    let p = err_from_is_err_and c.from_residual.result c.from_residual.ensures.1 in
    rw p.1 (none_begun a.acts.now a.test.now.calls (fresh a.test.now.turns a.cells a.test.now.answers) _)
