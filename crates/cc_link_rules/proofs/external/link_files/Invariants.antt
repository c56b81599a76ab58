use Rattle.std.proofs.Common.{◌≡◌, drop}
use Rattle.cc_link_rules.specs.External.{linked_from, linked_files}
use Rattle.cc_link_rules.proofs.external.link_files.Given as goal

abbrev pub invariant-loop-unit : goal.invariant-loop-unit
invariant-loop-unit l = linked_from l.types l.texts l.definitions l.file (drop l.unit-index l.units) (l.links, l.least) ≡ linked_files l.types l.texts l.definitions l.units l.initial.links
