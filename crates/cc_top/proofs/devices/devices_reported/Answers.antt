use Rattle.cc_top.proofs.CheckFacts.{some_told}
use Rattle.cc_top.proofs.DeviceFacts.{devices_named, included_named}
use Rattle.cc_top.proofs.Tells.{read_told}
use Rattle.cc_top.specs.Answer.{OfDevices}
use Rattle.cc_top.proofs.devices.devices_reported.Goals as goal

pub returns-in-Ok-clause-told : goal.returns-in-Ok-clause-told
returns-in-Ok-clause-told g c =
    let told = rw c.bytes.ensures at c.files_reported.ensures.told in
    read_told (g.S.Shelf.files c.args.shelf.now) c.args.name.now c.in-Ok.file (λ files. OfDevices c.args.name.now c.args.project.now) c.files_reported.result
    c.in-Ok.ensures.within c.in-Ok.ensures.held (some_told (g.S.Shelf.files c.args.shelf.now) (OfDevices c.args.name.now c.args.project.now c.in-Ok.file) c.files_reported.result told)

pub returns-in-Ok-clause-names : goal.returns-in-Ok-clause-names
returns-in-Ok-clause-names g c =
    let names = rw c.read_file.ensures.keeps at c.files_reported.ensures.names in
    included_named (g.S.Shelf.files c.args.shelf.now) c.args.name.now c.args.files.now c.files_reported.result names

pub returns-in-Err-clause-names : goal.returns-in-Err-clause-names
returns-in-Err-clause-names g c = devices_named (g.S.Shelf.files c.args.shelf.now) c.args.name.now c.args.files.now c.in-Err.refusal c.in-Err.ensures.names
