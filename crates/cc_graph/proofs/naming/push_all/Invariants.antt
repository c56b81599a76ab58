use Rattle.std.proofs.Common.{◌≡◌, ◌++◌, drop}
use Rattle.cc_graph.proofs.naming.push_all.Given as goal

abbrev pub invariant-loop-position : goal.invariant-loop-position
invariant-loop-position l = l.positions ++ drop l.position-index l.more ≡ l.initial.positions ++ l.more
