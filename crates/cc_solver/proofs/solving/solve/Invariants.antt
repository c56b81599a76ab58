use Rattle.std.proofs.Common.{◌≡◌, ◌+◌, ◌-◌, length}
use Rattle.cc_solver.specs.Solving.{IsState, Solves, OwesNone, LagsNone, HasGiven, HasJoins}
use Rattle.cc_solver.proofs.solving.solve.Given as goal

abbrev pub invariant-loop-step : goal.invariant-loop-step
invariant-loop-step g l = record {
  state : IsState l.limits l.state;
  long : length l.state.pairs.rows.items ≡ l.holders;
  given : HasGiven l.given l.state;
  joins : HasJoins l.joins l.state;
  solves : Solves l.given l.joins (g.R.Rules.adds l.rules) (g.R.Rules.gives l.rules) l.state OwesNone LagsNone;
}

abbrev pub decreases-loop-step : goal.decreases-loop-step
decreases-loop-step g l = l.limits.room - l.state.count + length l.state.work.items
