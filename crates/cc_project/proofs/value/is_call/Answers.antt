use Rattle.std.proofs.Common.{map, sym, ap, ◌∙◌, List}
use Rattle.toml.specs.View.{view}
use Rattle.toml.specs.declared.value.Value.{Value}
use Rattle.cc_project.specs.Rules.{is_call_list}
use Rattle.cc_project.proofs.Values.{is_call-array}
use Rattle.cc_project.proofs.value.is_call.Goals as goal

pub returns-in-Array : goal.returns-in-Array
returns-in-Array c =
    c.is_call_list.ensures ∙ ap (λ (s : List Value). is_call_list (map view s)) c.deref.ensures.value ∙ sym (is_call-array _ _ c.in-Array.is)
