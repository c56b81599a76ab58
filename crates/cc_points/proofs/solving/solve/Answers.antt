use Rattle.std.proofs.Common.{Err, ap, refl}
use Rattle.cc_points.specs.declared.solving.PointsFault.TheVariants as fault
use Rattle.cc_points.proofs.Telling
use Rattle.cc_points.proofs.solving.solve.Goals as goal

pub returns-in_ok-facts-in-Ok-clause-exist : goal.returns-in_ok-facts-in-Ok-clause-exist
returns-in_ok-facts-in-Ok-clause-exist c = Telling.exists_at c.args.program.now c.in_ok-view.view c.in_ok-view.ensures c.in-Ok.ensures.exist

pub returns-in_ok-facts-in-Ok-clause-tells : goal.returns-in_ok-facts-in-Ok-clause-tells
returns-in_ok-facts-in-Ok-clause-tells c = Telling.told_at c.args.program.now c.in_ok-view.view c.in-Ok.rows c.in_ok-facts-in-Ok.facts c.in_ok-view.ensures c.in_ok-facts-in-Ok.ensures c.in-Ok.ensures.tells

pub returns-in_ok-facts-in-Ok-clause-parts : goal.returns-in_ok-facts-in-Ok-clause-parts
returns-in_ok-facts-in-Ok-clause-parts c = Telling.parts_at c.args.program.now c.in_ok-view.view c.in-Ok.rows c.in_ok-facts-in-Ok.facts c.in_ok-view.ensures c.in_ok-facts-in-Ok.ensures c.in-Ok.ensures.parts

pub returns-in_ok-facts-in-Ok-clause-fit : goal.returns-in_ok-facts-in-Ok-clause-fit
returns-in_ok-facts-in-Ok-clause-fit c = Telling.fits_at c.args.program.now c.in_ok-view.view c.in_ok-view.ensures c.in-Ok.ensures.fit

pub returns-in-Err-clause-many : goal.returns-in-Err-clause-many
returns-in-Err-clause-many c = λ e.
    let same = Telling.same_fault c.in-Err.fault fault.TooManyFacts (Err c.in-Err.fault) (Err fault.TooManyFacts) refl refl e in
    Telling.many_at c.args.program.now c.in_ok-view.view c.in_ok-view.ensures (c.in-Err.ensures.many (ap Err same))
