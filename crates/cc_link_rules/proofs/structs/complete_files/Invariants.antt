use Rattle.std.proofs.Common.{◌≡◌, drop}
use Rattle.cc_link_rules.specs.Wholes.{completed_files as after}
use Rattle.cc_link_rules.proofs.structs.complete_files.Given as goal

abbrev pub invariant-loop-unit : goal.invariant-loop-unit
invariant-loop-unit l = after l.types (drop l.unit-index l.units) l.whole ≡ after l.types l.units l.initial.whole
