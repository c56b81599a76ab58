use Rattle.cc_device_runs.proofs.Reported.{report_of}
use Rattle.cc_device_runs.proofs.reporting.report_devices.Goals as goal

pub returns : goal.returns
returns c = report_of c.args.program.now c.args.tests.now c.args.devices.now c.in_ok-graph.graph c.in_ok-facts.facts c.report_by.result
    c.in_ok-graph.ensures c.in_ok-facts.ensures c.report_by.ensures
