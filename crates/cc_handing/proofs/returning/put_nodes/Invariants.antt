use Rattle.std.proofs.Common.{◌≡◌, drop}
use Rattle.cc_handing.specs.Handing.{with_nodes}
use Rattle.cc_handing.proofs.returning.put_nodes.Given as goal

abbrev pub invariant-loop-n : goal.invariant-loop-n
invariant-loop-n l = with_nodes l.program l.graph l.parts l.definitions l.functions (drop l.n l.nodes) l.n l.handed ≡ with_nodes l.program l.graph l.parts l.definitions l.functions l.nodes 0 l.initial.handed
