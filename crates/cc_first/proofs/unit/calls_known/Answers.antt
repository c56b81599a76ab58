use Rattle.std.proofs.Common.{◌∙◌, ap, sym, List}
use Rattle.std.proofs.lemmas.List.Folds.{list_all-map}
use Rattle.std.specs.List.{list_all}
use Rattle.cc_first.specs.UnitReads.{is_among}
use Rattle.cc_first.specs.Views.{name_view}
use Rattle.cc_first.specs.declared.unit.Name.{Name}
use Rattle.cc_first.proofs.UnitStands.{texts}
use Rattle.cc_first.proofs.unit.calls_known.Goals as goal

pub returns-in-Definition : goal.returns-in-Definition
returns-in-Definition c =
    rw c.in-Definition.is
    (c.are_known.ensures ∙ ap (λ (names : List Name). list_all (λ name. is_among (texts c.args.heads.now.keys) name.text.now) names) c.deref.ensures.value
    ∙ sym (list_all-map (λ call. is_among (texts c.args.heads.now.keys) call.text) name_view c.in-Definition.calls.items))
