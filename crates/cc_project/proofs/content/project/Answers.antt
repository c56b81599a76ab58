use Rattle.std.proofs.Common.{map, ap, ◌∙◌}
use Rattle.toml.specs.View.{view}
use Rattle.cc_project.specs.Order.{name_of}
use Rattle.cc_project.specs.Project.{files_from, test_of, justified_of}
use Rattle.cc_project.specs.Values.{items_in, text_of}
use Rattle.cc_project.proofs.Limits.{component_count, listed_count}
use Rattle.cc_project.proofs.WellMade.{copied_well}
use Rattle.cc_project.proofs.content.project.Goals as goal

pub files-requires : goal.files-requires
files-requires c = listed_count c.items_in-listed.result.now _ (c.items_in-listed.ensures ∙ ap items_in c.at_key.ensures) (component_count _ c.requires)

pub invariant_of-result : goal.invariant_of-result
invariant_of-result c =
    let listed = c.items_in-listed.ensures ∙ ap items_in c.at_key.ensures in
    copied_well (view c.args.document.now) _ _ _ _ _ _ _ c.requires
    c.format_of.ensures
    (c.in_ok-components.ensures ∙ ap (map name_of) listed)
    (c.in_ok-files.ensures ∙ ap (files_from 0) listed)
    (c.in_ok-entries.ensures ∙ ap (map text_of) (c.items_in.ensures ∙ ap items_in c.at_key-2.ensures))
    (c.in_ok-environment.ensures ∙ ap (map text_of) (c.items_in-2.ensures ∙ ap items_in c.at_key-3.ensures))
    (c.in_ok-tests.ensures ∙ ap (map test_of) (c.items_in-3.ensures ∙ ap items_in c.at_key-4.ensures))
    (c.in_ok-justified.ensures ∙ ap (map justified_of) (c.items_in-4.ensures ∙ ap items_in c.justified_in.ensures))
