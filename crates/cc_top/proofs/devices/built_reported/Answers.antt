use Rattle.cc_top.proofs.DeviceFacts.{program_told, shape_told}
use Rattle.cc_top.proofs.devices.built_reported.Goals as goal

pub returns-in-Ok-clause-told : goal.returns-in-Ok-clause-told
returns-in-Ok-clause-told c =
    program_told c.args.name.now c.args.project.now c.args.bytes.now c.args.built.now.program c.args.built.now.tests c.in-Ok.all c.program_reported.result c.requires.bound c.in-Ok.ensures.ok
    c.program_reported.ensures.told

pub returns-in-Err-clause-told : goal.returns-in-Err-clause-told
returns-in-Err-clause-told c =
    shape_told c.args.name.now c.args.project.now c.args.bytes.now c.in-Err.fault c.of_devices.result c.in-Err.ensures.err c.of_devices.ensures.input c.of_devices.ensures.is
