use Rattle.std.proofs.Common.{ℕ, List, take}
use Rattle.std.specs.Prelude.{Contains, Option}
use Rattle.cc_blocks.specs.declared.cell.Cell.{Cell}
use Rattle.cc_solver.specs.declared.rules.Pair.{Pair}
use Rattle.cc_solver.specs.declared.rules.Edge.{Edge}
use Rattle.cc_solver.specs.Solving.{Has, IsState, Keeps, Solves, OwesDue, LagsAll}
use Rattle.cc_solver.proofs.solving.hand_one.Given as goal

abbrev pub invariant-loop-pair : goal.invariant-loop-pair
invariant-loop-pair g l = record {
  state : IsState l.limits l.state;
  keeps : Keeps l.fn.state l.state;
  all : (pair : Pair) → Contains (take l.pair-index l.pair-items) pair → Has l.state.pairs pair.holder pair.target;
  on : (given : List Pair) (joins : List Edge) (h : ℕ) (delta : List Cell) (next : Option ℕ)
      → Solves given joins (g.R.Rules.adds l.rules) (g.R.Rules.gives l.rules) l.fn.state (OwesDue h delta next) (LagsAll h delta)
      → Solves given joins (g.R.Rules.adds l.rules) (g.R.Rules.gives l.rules) l.state (OwesDue h delta next) (LagsAll h delta);
}
