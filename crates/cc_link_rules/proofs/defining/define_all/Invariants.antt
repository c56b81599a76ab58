use Rattle.std.proofs.Common.{◌≡◌, drop}
use Rattle.cc_link_rules.specs.Definitions.{all_defined}
use Rattle.cc_link_rules.proofs.defining.define_all.Given as goal

abbrev pub invariant-loop-outer : goal.invariant-loop-outer
invariant-loop-outer l = all_defined (drop l.outer-index l.outers) l.table ≡ all_defined l.outers l.initial.table
