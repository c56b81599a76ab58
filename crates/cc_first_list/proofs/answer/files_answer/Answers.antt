use Rattle.cc_first.specs.Views.{parts_view, project_view}
use Rattle.cc_first_list.proofs.Forms.{files_none}
use Rattle.cc_first_list.proofs.answer.files_answer.Goals as goal

pub returns-clause-none : goal.returns-clause-none
returns-clause-none c =
    let none = rw (c.deref.ensures.value, c.deref-2.ensures.value) at c.units_answer.ensures.none in
    let first = rw c.in-Some.is at c.in_ok-parts.ensures.some in
    let second = rw c.in-Some-2.is at c.in_ok-others.ensures.some in
    files_none (project_view c.args.project.now) c.args.first.now c.args.second.now (parts_view c.in-Some.parts.items) (parts_view c.in-Some-2.others.items) c.units_answer.result first second none
