use Rattle.cc_top.proofs.Tells.{read_told, read_names, project_names}
use Rattle.cc_top.specs.Answer.{OfBytes}
use Rattle.cc_top.proofs.steps.task_text.Goals as goal

pub returns-in-Ok-clause-told : goal.returns-in-Ok-clause-told
returns-in-Ok-clause-told g c =
    let told = rw (c.read_file.ensures.keeps, c.bytes.ensures) at c.document_text.ensures.told in
    read_told (g.S.Shelf.files c.args.shelf.now) c.args.name.now c.in-Ok.file (λ files. OfBytes c.args.work files c.args.name.now) c.document_text.result
    c.in-Ok.ensures.within c.in-Ok.ensures.held told

pub returns-in-Ok-clause-names : goal.returns-in-Ok-clause-names
returns-in-Ok-clause-names g c =
    let names = rw (c.read_file.ensures.keeps, c.bytes.ensures) at c.document_text.ensures.names in
    read_names (g.S.Shelf.files c.args.shelf.now) c.args.work c.args.name.now c.in-Ok.file c.document_text.result c.in-Ok.ensures.within c.in-Ok.ensures.held names

pub returns-in-Err-clause-names : goal.returns-in-Err-clause-names
returns-in-Err-clause-names g c = project_names (g.S.Shelf.files c.args.shelf.now) c.args.work c.args.name.now c.in-Err.refusal c.in-Err.ensures.names
