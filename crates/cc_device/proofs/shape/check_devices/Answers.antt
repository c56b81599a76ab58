use Rattle.cc_device.proofs.Firsts.{passed_up}
use Rattle.cc_device.proofs.Rounds.{device_fails, device_holds, devices_end}
use Rattle.cc_device.proofs.shape.check_devices.Goals as goal

pub returns-in_err-check_device-clause-err : goal.returns-in_err-check_device-clause-err
returns-in_err-check_device-clause-err c = passed_up c.from_residual.result c.in_err-check_device.field-0.0 _ c.from_residual.ensures.1
    (device_fails c.args.environment.now c.loop-i.i c.loop-i.names c.loop-i.functions c.args.devices.now c.index-devices-i.result _ c.in_err-check_device.field-0.0
    c.loop-i-test.true c.index-devices-i.is c.loop-i.invariant c.in_err-check_device.ensures.err)

pub loop-i-preserved : goal.loop-i-preserved
loop-i-preserved c = device_holds c.args.environment.now c.loop-i.i c.loop-i.names c.loop-i.functions c.check_device.new.names c.check_device.new.functions c.args.devices.now c.index-devices-i.result _
    c.loop-i-test.true c.index-devices-i.is c.loop-i.invariant c.in_ok-check_device.ensures.ok c.in_ok-check_device.ensures.names c.in_ok-check_device.ensures.functions

pub returns-clause-ok : goal.returns-clause-ok
returns-clause-ok c = devices_end c.args.environment.now c.loop-i.i c.loop-i.names c.loop-i.functions c.args.devices.now _ c.loop-i-test.false c.loop-i.invariant
