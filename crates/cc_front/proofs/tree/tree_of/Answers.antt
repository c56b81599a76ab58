use Rattle.cc_front.proofs.FileFacts.{none_caused, none_told, none_caused_by, none_told_by}
use Rattle.cc_front.proofs.tree.tree_of.Goals as goal

pub returns-in-Ok-clause-caused : goal.returns-in-Ok-clause-caused
returns-in-Ok-clause-caused g c = none_caused_by _ _ c.numbered.result c.numbered.ensures.none

pub returns-in-Ok-clause-told : goal.returns-in-Ok-clause-told
returns-in-Ok-clause-told g c = none_told_by (g.S.Shelf.files c.args.shelf.now) c.args.bytes.now c.numbered.result c.numbered.ensures.none

pub returns-clause-caused : goal.returns-clause-caused
returns-clause-caused g c = none_caused _ _ c.syntactic.result c.syntactic.ensures

pub returns-clause-told : goal.returns-clause-told
returns-clause-told g c = none_told (g.S.Shelf.files c.args.shelf.now) c.args.bytes.now c.syntactic.result c.syntactic.ensures
