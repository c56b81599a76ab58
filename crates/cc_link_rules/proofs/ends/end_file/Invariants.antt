use Rattle.std.proofs.Common.{◌≡◌, drop}
use Rattle.cc_link_rules.specs.Ends.{end_file}
use Rattle.cc_link_rules.proofs.ends.end_file.Given as goal

abbrev pub invariant-loop-outer : goal.invariant-loop-outer
invariant-loop-outer l = end_file l.types l.declared l.definitions l.file l.unit.structs (drop l.outer-index l.outer-items) l.so_far ≡ end_file l.types l.declared l.definitions l.file l.unit.structs l.unit.outers l.fn.least
