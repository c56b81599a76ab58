use Rattle.std.proofs.Common.{◌≡◌, drop}
use Rattle.cc_link_rules.specs.Typedefs.{typedef_from, typedef_files}
use Rattle.cc_link_rules.proofs.typedefs.link_typedefs.Given as goal

abbrev pub invariant-loop-unit : goal.invariant-loop-unit
invariant-loop-unit l = typedef_from l.texts l.file (drop l.unit-index l.units) (l.names, l.least) ≡ typedef_files l.texts l.units l.initial.names
