use Rattle.cc_project.specs.Keys.{field_text}
use Rattle.cc_project.specs.Views.{test_of}
use Rattle.cc_project.proofs.Firsts.{passed_up}
use Rattle.cc_project.proofs.Rounds.{each_fails, each_holds, each_ends}
use Rattle.cc_project.proofs.shape.check_items.Goals as goal

pub returns-in_err-demand_at-clause-err : goal.returns-in_err-demand_at-clause-err
returns-in_err-demand_at-clause-err c = passed_up c.from_residual.result c.in_err-demand_at.field-0.0 _ c.from_residual.ensures.1
    (each_fails (field_text c.args.field) c.args.rule (test_of c.args.kind) c.loop-k.k c.args.items.now c.index-items-k.result _ c.in_err-demand_at.field-0.0 c.fits.result
    c.loop-k-test.true c.index-items-k.is c.loop-k.invariant c.fits.ensures c.in_err-demand_at.ensures.err)

pub loop-k-preserved : goal.loop-k-preserved
loop-k-preserved c = each_holds (field_text c.args.field) c.args.rule (test_of c.args.kind) c.loop-k.k c.args.items.now c.index-items-k.result _ c.fits.result
    c.loop-k-test.true c.index-items-k.is c.loop-k.invariant c.fits.ensures c.in_ok-demand_at.ensures.ok

pub returns-clause-ok : goal.returns-clause-ok
returns-clause-ok c = each_ends (field_text c.args.field) c.args.rule (test_of c.args.kind) c.loop-k.k c.args.items.now _ c.loop-k-test.false c.loop-k.invariant
