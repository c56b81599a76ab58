use Rattle.std.proofs.Common.{◌≡◌, [], length, take}
use Rattle.cc_solver.specs.Solving.{IsState, Begins}
use Rattle.cc_solver.proofs.solving.begin.Given as goal

abbrev pub invariant-loop-edge : goal.invariant-loop-edge
invariant-loop-edge l = record {
  state : IsState l.limits l.state;
  long : length l.state.pairs.rows.items ≡ l.holders;
  begins : Begins [] (take l.edge-index l.joins) l.state;
}

abbrev pub invariant-loop-pair : goal.invariant-loop-pair
invariant-loop-pair l = record {
  state : IsState l.limits l.state;
  long : length l.state.pairs.rows.items ≡ l.holders;
  begins : Begins (take l.pair-index l.given) l.joins l.state;
}
