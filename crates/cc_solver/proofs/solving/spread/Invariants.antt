use Rattle.std.specs.Prelude.{IfSome}
use Rattle.cc_solver.specs.Solving.{Has, IsState, Keeps, SpreadsTo, left_of}
use Rattle.cc_solver.proofs.solving.spread.Given as goal

abbrev pub invariant-loop-next : goal.invariant-loop-next
invariant-loop-next l = record {
  state : IsState l.limits l.state;
  keeps : Keeps l.fn.state l.state;
  spreads : SpreadsTo l.fn.state l.state l.holder l.delta.cells.items l.next;
  is_edge : IfSome l.next (Has l.fn.state.edges l.holder);
}

abbrev pub decreases-loop-next : goal.decreases-loop-next
decreases-loop-next l = left_of l.next
