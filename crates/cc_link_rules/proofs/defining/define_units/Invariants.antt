use Rattle.std.proofs.Common.{◌≡◌, drop}
use Rattle.cc_link_rules.specs.Definitions.{units_defined}
use Rattle.cc_link_rules.proofs.defining.define_units.Given as goal

abbrev pub invariant-loop-unit : goal.invariant-loop-unit
invariant-loop-unit l = units_defined (drop l.unit-index l.units) l.table ≡ units_defined l.units l.initial.table
