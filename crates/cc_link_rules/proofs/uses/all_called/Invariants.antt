use Rattle.std.proofs.Common.{◌≡◌, drop}
use Rattle.cc_link_rules.specs.Uses.{called_from, all_called as all}
use Rattle.cc_link_rules.proofs.uses.all_called.Given as goal

abbrev pub invariant-loop-placed : goal.invariant-loop-placed
invariant-loop-placed l = called_from l.arena.nodes (drop l.placed-index l.placed-items) l.number l.flags ≡ all l.arena.nodes
