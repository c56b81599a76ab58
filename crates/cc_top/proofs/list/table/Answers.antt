use Rattle.cc_top.proofs.ListFacts.{listed_of}
use Rattle.cc_top.proofs.list.table.Goals as goal

pub returns-in-Ok-clause-listed : goal.returns-in-Ok-clause-listed
returns-in-Ok-clause-listed g c = listed_of c.in-Ok.built.program c.list_text.result c.list_text.ensures.text c.list_text.ensures.fault
