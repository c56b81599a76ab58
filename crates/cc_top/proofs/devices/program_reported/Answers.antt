use Rattle.cc_top.proofs.DeviceFacts.{fault_told, report_told}
use Rattle.cc_top.proofs.devices.program_reported.Goals as goal

pub returns-in-Ok-clause-told : goal.returns-in-Ok-clause-told
returns-in-Ok-clause-told c = report_told c.args.built.now.program c.args.built.now.tests c.args.all.now c.in-Ok.report.text.items c.in-Ok.report.is_met c.in-Ok.ensures

pub returns-in-Err-clause-told : goal.returns-in-Err-clause-told
returns-in-Err-clause-told c =
    fault_told c.args.built.now.program c.args.built.now.tests c.args.all.now c.in-Err.fault c.of_device_report.result c.of_device_report.ensures.is c.of_device_report.ensures.input
