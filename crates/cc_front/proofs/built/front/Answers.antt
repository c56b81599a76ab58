use Rattle.cc_front.proofs.FileFacts.{other_caused, other_told, other_caused_by, other_told_by}
use Rattle.cc_front.proofs.built.front.Goals as goal

pub returns-in-Ok-clause-caused : goal.returns-in-Ok-clause-caused
returns-in-Ok-clause-caused g c = other_caused_by _ _ c.with_tests.result c.with_tests.ensures.other

pub returns-in-Ok-clause-told : goal.returns-in-Ok-clause-told
returns-in-Ok-clause-told g c = other_told_by (g.S.Shelf.files c.args.shelf.now) c.args.files.now c.with_tests.result c.with_tests.ensures.other

pub returns-clause-caused : goal.returns-clause-caused
returns-clause-caused g c = other_caused _ _ c.unlinked.result c.unlinked.ensures

pub returns-clause-told : goal.returns-clause-told
returns-clause-told g c = other_told (g.S.Shelf.files c.args.shelf.now) c.args.files.now c.unlinked.result c.unlinked.ensures
