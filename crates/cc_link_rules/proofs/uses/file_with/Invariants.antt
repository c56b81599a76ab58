use Rattle.std.proofs.Common.{◌≡◌, drop}
use Rattle.cc_link_rules.specs.Uses.{file_from, file_with as first_with}
use Rattle.cc_link_rules.proofs.uses.file_with.Given as goal

abbrev pub invariant-loop-unit : goal.invariant-loop-unit
invariant-loop-unit l = file_from l.file (drop l.unit-index l.units) l.node ≡ first_with l.units l.node
