use Rattle.std.proofs.Common.{ap}
use Rattle.cc_io.specs.Shelf.{Files}
use Rattle.cc_project.specs.Project.{Project}
use Rattle.cc_project.specs.WellMade.{file_names_of}
use Rattle.cc_top.proofs.CheckFacts.{files_led, files_refused, files_named, included_named}
use Rattle.cc_top.specs.Answer.{OfFiles}
use Rattle.cc_top.proofs.steps.project_text.Goals as goal

pub returns-in-Ok-clause-told : goal.returns-in-Ok-clause-told
returns-in-Ok-clause-told g c =
    let held = rw (c.new.ensures, c.as_slice.ensures, ap (λ (p : Project). p.files) c.project.view_is) at c.in-Ok.ensures.held in
    let told = rw c.read_files.ensures.keeps at c.files_text.ensures.told in
    files_led (g.S.Shelf.files c.args.shelf.now) (file_names_of c.args.project.now.files) c.in-Ok.files
    (λ (files : Files). OfFiles c.args.work files c.args.name.now c.args.bytes.now c.args.project.now) _ held told

pub returns-in-Err-clause-told : goal.returns-in-Err-clause-told
returns-in-Err-clause-told g c =
    let refused = rw (c.as_slice.ensures, ap (λ (p : Project). p.files) c.project.view_is) at c.in-Err.ensures.refused in
    files_refused (g.S.Shelf.files c.args.shelf.now) (file_names_of c.args.project.now.files)
    (λ (files : Files). OfFiles c.args.work files c.args.name.now c.args.bytes.now c.args.project.now) c.in-Err.refusal refused

pub returns-in-Err-clause-names : goal.returns-in-Err-clause-names
returns-in-Err-clause-names g c =
    let refused = rw (c.as_slice.ensures, ap (λ (p : Project). p.files) c.project.view_is) at c.in-Err.ensures.refused in
    files_named (g.S.Shelf.files c.args.shelf.now) c.args.work (file_names_of c.args.project.now.files) c.in-Err.refusal refused

pub returns-in-Ok-clause-names : goal.returns-in-Ok-clause-names
returns-in-Ok-clause-names g c =
    let held = rw (c.new.ensures, c.as_slice.ensures, ap (λ (p : Project). p.files) c.project.view_is) at c.in-Ok.ensures.held in
    let names = rw c.read_files.ensures.keeps at c.files_text.ensures.names in
    included_named (g.S.Shelf.files c.args.shelf.now) c.args.work (file_names_of c.args.project.now.files) c.in-Ok.files c.files_text.result held names
