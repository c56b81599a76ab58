use Rattle.std.proofs.Common.{ap}
use Rattle.cc_project.specs.Project.{Project}
use Rattle.cc_top.proofs.ListFacts.{first_told, not_first}
use Rattle.cc_top.proofs.list.files_listed.Goals as goal

pub returns-in-Ok-Some-clause-told : goal.returns-in-Ok-Some-clause-told
returns-in-Ok-Some-clause-told g c =
    let answers = rw (c.in-Ok-Some.field-0-is, c.as_slice.ensures, c.as_slice-2.ensures, ap (λ (p : Project). p.files) c.project.view_is) at c.in-Ok-Some.ensures.some in
    first_told c.args.bytes.now c.args.project.now c.args.files.now c.in-Ok-Some.answer c.answered.result answers c.answered.ensures.is

pub returns-in-Ok-None-clause-told : goal.returns-in-Ok-None-clause-told
returns-in-Ok-None-clause-told g c =
    let none = rw (c.in-Ok-None.field-0-is, c.as_slice.ensures, c.as_slice-2.ensures, ap (λ (p : Project). p.files) c.project.view_is) at c.in-Ok-None.ensures.none in
    not_first c.args.bytes.now c.args.project.now c.args.files.now c.whole_listed.result none c.whole_listed.ensures.told
