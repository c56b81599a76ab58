use Rattle.std.proofs.Common.{◌≡◌, ◌&&◌}
use Rattle.cc_types.specs.Shapes.{built, type_at, types_of}
use Rattle.cc_link_rules.specs.Callable.{takes_numbers as takes, parameters}
use Rattle.cc_link_rules.proofs.callable.takes_numbers.Given as goal

abbrev pub invariant-loop-shape : goal.invariant-loop-shape
invariant-loop-shape l = (l.is_fine && takes (built (types_of l.types) l.shape)) ≡ takes (type_at (types_of l.types) l.fn.kind)

abbrev pub decreases-loop-shape : goal.decreases-loop-shape
decreases-loop-shape l = parameters (built (types_of l.types) l.shape)
