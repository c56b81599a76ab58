use Rattle.cc_top.proofs.FrontFacts.{front_caused, front_kind, front_named}
use Rattle.cc_top.proofs.ListFacts.{files_refused, listing_told, table_told}
use Rattle.cc_top.proofs.list.whole_listed.Goals as goal

pub returns-in-Err-clause-told : goal.returns-in-Err-clause-told
returns-in-Err-clause-told g c = files_refused c.args.project.now c.in-Err.fault c.of_front.result c.of_front.ensures

pub returns-in-Err-clause-caused : goal.returns-in-Err-clause-caused
returns-in-Err-clause-caused g c = front_caused _ _ c.args.project.now c.in-Err.fault c.of_front.result c.in-Err.ensures.caused c.of_front.ensures

pub returns-in-Err-clause-kind : goal.returns-in-Err-clause-kind
returns-in-Err-clause-kind g c = front_kind c.args.project.now c.in-Err.fault c.of_front.result c.of_front.ensures

pub returns-in-Err-clause-names : goal.returns-in-Err-clause-names
returns-in-Err-clause-names g c = front_named (g.S.Shelf.files c.args.shelf.now) c.args.files.now c.args.project.now c.in-Err.fault c.of_front.result c.in-Err.ensures.told c.of_front.ensures
