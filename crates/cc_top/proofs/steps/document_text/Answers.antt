use Rattle.cc_top.proofs.CheckFacts.{document_named, document_told}
use Rattle.cc_top.proofs.steps.document_text.Goals as goal

pub returns-in-Ok-clause-told : goal.returns-in-Ok-clause-told
returns-in-Ok-clause-told g c =
    document_told (g.S.Shelf.files c.args.shelf.now) c.args.work c.args.name.now c.args.bytes.now c.in-Ok.project _ c.in-Ok.ensures.ok c.project_text.ensures.told

pub returns-in-Ok-clause-names : goal.returns-in-Ok-clause-names
returns-in-Ok-clause-names g c =
    document_named (g.S.Shelf.files c.args.shelf.now) c.args.work c.args.bytes.now c.in-Ok.project _ c.in-Ok.ensures.ok c.project_text.ensures.names
