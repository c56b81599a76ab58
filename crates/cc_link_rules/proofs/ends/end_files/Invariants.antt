use Rattle.std.proofs.Common.{◌≡◌, drop}
use Rattle.cc_link_rules.specs.Ends.{end_from, end_files}
use Rattle.cc_link_rules.proofs.ends.end_files.Given as goal

abbrev pub invariant-loop-unit : goal.invariant-loop-unit
invariant-loop-unit l = end_from l.types l.declared l.definitions l.file (drop l.unit-index l.units) l.least ≡ end_files l.types l.declared l.definitions l.units
