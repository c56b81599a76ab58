use Rattle.std.proofs.Common.{ℕ, List, take}
use Rattle.std.specs.Prelude.{Contains, Option}
use Rattle.cc_blocks.specs.declared.cell.Cell.{Cell}
use Rattle.cc_solver.specs.declared.rules.Pair.{Pair}
use Rattle.cc_solver.specs.declared.rules.Edge.{Edge}
use Rattle.cc_solver.specs.Solving.{Has, IsState, Keeps, Solves, OwesDue, LagsAll}
use Rattle.cc_solver.proofs.solving.trigger_one.Given as goal

abbrev pub invariant-loop-edge : goal.invariant-loop-edge
invariant-loop-edge g l = record {
  state : IsState l.limits l.state;
  keeps : Keeps l.fn.state l.state;
  all : (edge : Edge) → Contains (take l.edge-index l.edge-items) edge → Has l.state.edges edge.from edge.to;
  on : (given : List Pair) (joins : List Edge) (h : ℕ) (delta : List Cell) (next : Option ℕ)
      → Solves given joins (g.R.Rules.adds l.rules) (g.R.Rules.gives l.rules) l.fn.state (OwesDue h delta next) (LagsAll h delta)
      → Solves given joins (g.R.Rules.adds l.rules) (g.R.Rules.gives l.rules) l.state (OwesDue h delta next) (LagsAll h delta);
}
