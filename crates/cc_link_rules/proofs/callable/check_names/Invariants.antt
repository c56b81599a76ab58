use Rattle.std.proofs.Common.{◌≡◌, drop}
use Rattle.cc_types.specs.Shapes.{types_of}
use Rattle.cc_link_rules.specs.Callable.{names_checked}
use Rattle.cc_link_rules.proofs.callable.check_names.Given as goal

abbrev pub invariant-loop-name : goal.invariant-loop-name
invariant-loop-name l = names_checked l.links (types_of l.types) l.list l.index (drop l.name-index l.name-items) l.first ≡ names_checked l.links (types_of l.types) l.list 0 l.names l.fn.before
