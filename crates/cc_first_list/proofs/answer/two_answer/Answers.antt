use Rattle.std.proofs.Common.{Some, ap, ◌∙◌}
use Rattle.cc_first.specs.Project.{IsProject}
use Rattle.cc_first.specs.Views.{project_view}
use Rattle.cc_first_list.proofs.Forms.{two_some, two_none}
use Rattle.cc_first_list.proofs.answer.two_answer.Goals as goal

pub returns-then-are_named-clause-some : goal.returns-then-are_named-clause-some
returns-then-are_named-clause-some c =
    let read = rw c.in-Some.is at c.in_ok-document.ensures.some in
    let project = project_view c.in-Some-read_project.project in
    let is : IsProject c.args.bytes.now project = record { utf8 = read.0; document = read.1 ∙ ap Some c.in-Some-read_project.ensures.some.0; well = c.in-Some-read_project.ensures.some.1 } in
    let named = c.are_named.ensures.0 c.if-are_named.true in
    two_some c.args.bytes.now project c.args.files.0.now.name c.args.files.1.now.name c.args.contents.0.now c.args.contents.1.now c.files_answer.result is named.0 named.1 c.files_answer.ensures.some

pub returns-then-are_named-clause-none : goal.returns-then-are_named-clause-none
returns-then-are_named-clause-none c =
    let read = rw c.in-Some.is at c.in_ok-document.ensures.some in
    let project = project_view c.in-Some-read_project.project in
    let is : IsProject c.args.bytes.now project = record { utf8 = read.0; document = read.1 ∙ ap Some c.in-Some-read_project.ensures.some.0; well = c.in-Some-read_project.ensures.some.1 } in
    two_none c.args.bytes.now project _ c.args.contents.0.now c.args.contents.1.now c.files_answer.result is c.files_answer.ensures.none
