use Rattle.std.proofs.Common.{◌≡◌, [], drop}
use Rattle.cc_points_view.specs.Standings.{standings_from}
use Rattle.cc_points_view.proofs.standing.standings.Given as goal

abbrev pub invariant-loop-placed : goal.invariant-loop-placed
invariant-loop-placed l = record {
  made : standings_from l.program l.parts l.bodies (drop l.placed-index l.nodes) l.n l.all ≡ standings_from l.program l.parts l.bodies l.nodes 0 [];
  counted : l.n ≡ l.placed-index;
}
