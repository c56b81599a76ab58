use Rattle.std.proofs.Common.{◌≡◌, drop}
use Rattle.cc_graph.specs.Linking.{lowered}
use Rattle.cc_graph.proofs.graph.link_all_nodes.Given as goal

abbrev pub invariant-loop-n : goal.invariant-loop-n
invariant-loop-n l = lowered l.arena l.rows l.scopes (drop l.n l.nodes) l.n l.next.items ≡ lowered l.arena l.rows l.scopes l.nodes 0 l.initial.next.items
