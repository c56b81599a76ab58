use Rattle.std.proofs.Common.{◌≡◌, drop}
use Rattle.cc_link_rules.specs.Tags.{tag_file}
use Rattle.cc_link_rules.proofs.tags.link_file.Given as goal

abbrev pub invariant-loop-completed : goal.invariant-loop-completed
invariant-loop-completed l = tag_file l.file l.unit.structs (drop l.completed-index l.completed-items) (l.tags, l.so_far) ≡ tag_file l.file l.unit.structs l.unit.completed (l.initial.tags, l.fn.least)
