use Rattle.std.proofs.Common.{false, subst}
use Rattle.cc_prep.specs.Passages.{IsPassageTo}
use Rattle.cc_prep.proofs.FileFacts.{told_all}
use Rattle.cc_prep.proofs.PassageFacts.{plain_refused, plain_whole}
use Rattle.cc_prep.proofs.expansion.expand.Goals as goal

pub returns-in-Err-clause-plain_fault : goal.returns-in-Err-clause-plain_fault
returns-in-Err-clause-plain_fault g c = λ plain. c.lexical.ensures.plain (plain_refused c.args.bytes.now c.in-Err.fault plain c.in-Err.ensures.fault)

pub returns-in-None-clause-plain : goal.returns-in-None-clause-plain
returns-in-None-clause-plain g c = λ plain. subst (IsPassageTo c.args.bytes.now false c.in-Ok.passage) c.in-None.is c.in-Ok.ensures.passage

pub returns-in-Some-clause-plain : goal.returns-in-Some-clause-plain
returns-in-Some-clause-plain g c = λ plain. absurd (plain_whole c.args.bytes.now c.in-Ok.passage c.in-Some.field-0 plain (subst (IsPassageTo c.args.bytes.now false c.in-Ok.passage) c.in-Some.is c.in-Ok.ensures.passage))

pub returns-in-Some-clause-plain_fault : goal.returns-in-Some-clause-plain_fault
returns-in-Some-clause-plain_fault g c = λ plain. absurd (plain_whole c.args.bytes.now c.in-Ok.passage c.in-Some.field-0 plain (subst (IsPassageTo c.args.bytes.now false c.in-Ok.passage) c.in-Some.is c.in-Ok.ensures.passage))

pub returns-in-Err-clause-caused : goal.returns-in-Err-clause-caused
returns-in-Err-clause-caused g c = c.lexical.ensures.caused _ _

pub returns-in-Err-clause-told : goal.returns-in-Err-clause-told
returns-in-Err-clause-told g c = told_all (g.S.Shelf.files c.args.shelf.now) c.args.bytes.now c.lexical.result c.lexical.ensures.told

pub returns-in-Err-clause-place : goal.returns-in-Err-clause-place
returns-in-Err-clause-place g c = c.lexical.ensures.place (g.S.Shelf.files c.args.shelf.now)
