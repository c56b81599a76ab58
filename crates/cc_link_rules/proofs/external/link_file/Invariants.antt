use Rattle.std.proofs.Common.{◌≡◌, drop}
use Rattle.cc_link_rules.specs.External.{linked_file}
use Rattle.cc_link_rules.proofs.external.link_file.Given as goal

abbrev pub invariant-loop-outer : goal.invariant-loop-outer
invariant-loop-outer l = linked_file l.types l.texts l.definitions l.file (drop l.outer-index l.outers) (l.links, l.so_far) ≡ linked_file l.types l.texts l.definitions l.file l.outers (l.initial.links, l.fn.least)
