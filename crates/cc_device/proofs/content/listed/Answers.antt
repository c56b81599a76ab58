use Rattle.std.proofs.Common.{[], ◌∷◌, ◌++◌, ap, ◌∙◌}
use Rattle.cc_device.specs.Devices.{device_of}
use Rattle.cc_project.proofs.Copies.{copied_more, copied_all}
use Rattle.cc_device.proofs.content.listed.Goals as goal

pub loop-item-preserved : goal.loop-item-preserved
loop-item-preserved c = copied_more device_of c.loop-item.item-index c.loop-item.list c.push.new.self _ c.args.items.now c.item-item.result
    c.loop-item-test.true c.item-item.is c.loop-item.invariant (c.in_ok-push.ensures.ok ∙ ap (λ x. c.loop-item.list ++ x ∷ []) c.in_ok-device.ensures)

pub returns : goal.returns
returns c = copied_all device_of c.loop-item.item-index _ _ c.args.items.now c.loop-item-test.false c.loop-item.invariant
