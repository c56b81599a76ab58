use Rattle.std.proofs.Common.{map, sym, ap, ◌∙◌, List}
use Rattle.toml.specs.View.{view}
use Rattle.toml.specs.declared.value.Value.{Value}
use Rattle.cc_project.specs.Values.{is_list}
use Rattle.cc_device.specs.Views.{test_of}
use Rattle.cc_project.proofs.Values.{is_array-array}
use Rattle.cc_device.proofs.value.is_array.Goals as goal

pub returns-in-Array : goal.returns-in-Array
returns-in-Array c =
    c.is_list.ensures ∙ ap (λ (s : List Value). is_list c.args.least c.args.most (test_of c.args.kind) (map view s)) c.deref.ensures.value
    ∙ sym (is_array-array c.args.least c.args.most (test_of c.args.kind) _ _ c.in-Array.is)
