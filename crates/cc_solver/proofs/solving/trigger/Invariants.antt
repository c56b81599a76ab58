use Rattle.std.proofs.Common.{List}
use Rattle.std.specs.Prelude.{IfSome}
use Rattle.cc_solver.specs.declared.rules.Pair.{Pair}
use Rattle.cc_solver.specs.declared.rules.Edge.{Edge}
use Rattle.cc_solver.specs.Solving.{In, IsState, Keeps, Solves, OwesDue, OwesAll, LagsAll, left_of}
use Rattle.cc_solver.proofs.solving.trigger.Given as goal

abbrev pub invariant-loop-next : goal.invariant-loop-next
invariant-loop-next g l = record {
  state : IsState l.limits l.state;
  keeps : Keeps l.fn.state l.state;
  in_delta : IfSome l.next (In l.delta.cells.items);
  on : (given : List Pair) (joins : List Edge)
      → Solves given joins (g.R.Rules.adds l.rules) (g.R.Rules.gives l.rules) l.fn.state (OwesAll l.holder l.delta.cells.items) (LagsAll l.holder l.delta.cells.items)
      → Solves given joins (g.R.Rules.adds l.rules) (g.R.Rules.gives l.rules) l.state (OwesDue l.holder l.delta.cells.items l.next) (LagsAll l.holder l.delta.cells.items);
}

abbrev pub decreases-loop-next : goal.decreases-loop-next
decreases-loop-next g l = left_of l.next
