use Rattle.std.proofs.Common.{◌≡◌, drop}
use Rattle.cc_link_rules.specs.Tags.{tag_from, tag_files}
use Rattle.cc_link_rules.proofs.tags.link_tags.Given as goal

abbrev pub invariant-loop-unit : goal.invariant-loop-unit
invariant-loop-unit l = tag_from l.file (drop l.unit-index l.units) (l.tags, l.least) ≡ tag_files l.units l.initial.tags
