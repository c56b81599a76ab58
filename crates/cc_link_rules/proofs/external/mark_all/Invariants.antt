use Rattle.std.proofs.Common.{◌≡◌, drop}
use Rattle.cc_link_rules.specs.External.{all_marked}
use Rattle.cc_link_rules.proofs.external.mark_all.Given as goal

abbrev pub invariant-loop-name : goal.invariant-loop-name
invariant-loop-name l = all_marked (drop l.name-index l.name-items) l.links ≡ all_marked l.names l.initial.links
