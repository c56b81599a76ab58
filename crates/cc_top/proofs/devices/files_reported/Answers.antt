use Rattle.cc_top.proofs.DeviceFacts.{files_refused}
use Rattle.cc_top.proofs.FrontFacts.{front_caused, front_kind, front_named}
use Rattle.cc_top.proofs.ReportFacts.{outcome_caused, outcome_kind, outcome_named}
use Rattle.cc_top.proofs.devices.files_reported.Goals as goal

pub returns-in-Err-clause-told : goal.returns-in-Err-clause-told
returns-in-Err-clause-told g c = files_refused c.args.name.now c.args.project.now c.args.bytes.now c.in-Err.fault c.of_front.result c.of_front.ensures

pub returns-in-Err-clause-caused : goal.returns-in-Err-clause-caused
returns-in-Err-clause-caused g c = front_caused _ _ c.args.project.now c.in-Err.fault c.of_front.result c.in-Err.ensures.caused c.of_front.ensures

pub returns-in-Err-clause-kind : goal.returns-in-Err-clause-kind
returns-in-Err-clause-kind g c = front_kind c.args.project.now c.in-Err.fault c.of_front.result c.of_front.ensures

pub returns-in-Err-clause-names : goal.returns-in-Err-clause-names
returns-in-Err-clause-names g c = front_named (g.S.Shelf.files c.args.shelf.now) c.args.files.now c.args.project.now c.in-Err.fault c.of_front.result c.in-Err.ensures.told c.of_front.ensures

pub returns-in-Ok-clause-caused : goal.returns-in-Ok-clause-caused
returns-in-Ok-clause-caused g c = outcome_caused _ _ c.built_reported.result c.built_reported.ensures.input

pub returns-in-Ok-clause-kind : goal.returns-in-Ok-clause-kind
returns-in-Ok-clause-kind g c = outcome_kind c.built_reported.result c.built_reported.ensures.input

pub returns-in-Ok-clause-names : goal.returns-in-Ok-clause-names
returns-in-Ok-clause-names g c = outcome_named (g.S.Shelf.files c.args.shelf.now) c.args.files.now c.built_reported.result c.built_reported.ensures.input
