use Rattle.std.proofs.Common.{map, sym, ap, ◌∙◌}
use Rattle.toml.specs.View.{view}
use Rattle.cc_project.proofs.Values.{items_of-array}
use Rattle.cc_device.proofs.value.items_of.Goals as goal

pub returns-in-Array : goal.returns-in-Array
returns-in-Array c = ap (map view) c.as_slice.ensures.value ∙ sym (items_of-array _ _ c.in-Array.is)
