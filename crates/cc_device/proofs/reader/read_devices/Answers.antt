use Rattle.cc_device.proofs.Sizes.{few_devices}
use Rattle.cc_device.proofs.reader.read_devices.Goals as goal

pub returns-in-Ok-devices-clause-few : goal.returns-in-Ok-devices-clause-few
returns-in-Ok-devices-clause-few c = few_devices _ _ _ c.in_ok-check.ensures.ok c.in-Ok-devices.ensures
