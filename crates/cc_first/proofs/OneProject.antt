-- Bytes say at most one project.
use Rattle.std.proofs.Common.{◌≡◌, ℕ, List, ap, ◌∙◌}
use Rattle.cc_first.specs.Project.{Component, Project, project_members}

same_component : (c d : Component) → c.name ≡ d.name → c.file ≡ d.file → c ≡ d
same_component c d names files =
    let with_name : List ℕ → Component = λ x. record { name = x; file = c.file } in
    let with_file : List ℕ → Component = λ x. record { name = d.name; file = x } in
    ap with_name names ∙ ap with_file files

-- bytes say at most one project
pub same_project : (p q : Project) → project_members p ≡ project_members q → p ≡ q
same_project p q e =
    let entries : p.entry ≡ q.entry = cc in
    let names : p.first.name ≡ q.first.name = cc in
    let files : p.first.file ≡ q.first.file = cc in
    let names' : p.second.name ≡ q.second.name = cc in
    let files' : p.second.file ≡ q.second.file = cc in
    let with_entry : List ℕ → Project = λ x. record { entry = x; first = p.first; second = p.second } in
    let with_first : Component → Project = λ x. record { entry = q.entry; first = x; second = p.second } in
    let with_second : Component → Project = λ x. record { entry = q.entry; first = q.first; second = x } in
    ap with_entry entries ∙ ap with_first (same_component p.first q.first names files) ∙ ap with_second (same_component p.second q.second names' files')
