use Rattle.std.proofs.Common.{◌≡◌, drop}
use Rattle.cc_link_rules.specs.Wholes.{completed_file}
use Rattle.cc_link_rules.proofs.structs.complete_file.Given as goal

abbrev pub invariant-loop-completed : goal.invariant-loop-completed
invariant-loop-completed l = completed_file l.types l.unit.structs (drop l.completed-index l.completed-items) l.whole ≡ completed_file l.types l.unit.structs l.unit.completed l.initial.whole
