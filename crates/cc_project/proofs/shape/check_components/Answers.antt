use Rattle.cc_project.proofs.Firsts.{passed_up}
use Rattle.cc_project.proofs.Rounds.{component_fails, component_holds, components_end}
use Rattle.cc_project.proofs.shape.check_components.Goals as goal

pub returns-in_err-check_component-clause-err : goal.returns-in_err-check_component-clause-err
returns-in_err-check_component-clause-err c = passed_up c.from_residual.result c.in_err-check_component.field-0.0 _ c.from_residual.ensures.1
    (component_fails c.loop-i.i c.loop-i.names c.loop-i.files c.args.components.now c.index-components-i.result _ c.in_err-check_component.field-0.0
    c.loop-i-test.true c.index-components-i.is c.loop-i.invariant c.in_err-check_component.ensures.err)

pub loop-i-preserved : goal.loop-i-preserved
loop-i-preserved c = component_holds c.loop-i.i c.loop-i.names c.loop-i.files c.check_component.new.names c.check_component.new.files c.args.components.now c.index-components-i.result _
    c.loop-i-test.true c.index-components-i.is c.loop-i.invariant c.in_ok-check_component.ensures.ok c.in_ok-check_component.ensures.names c.in_ok-check_component.ensures.files

pub returns-clause-ok : goal.returns-clause-ok
returns-clause-ok c = components_end c.loop-i.i c.loop-i.names c.loop-i.files c.args.components.now _ c.loop-i-test.false c.loop-i.invariant
