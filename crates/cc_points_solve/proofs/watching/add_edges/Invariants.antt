use Rattle.std.proofs.Common.{◌≡◌, drop}
use Rattle.cc_points_solve.specs.Watching as spec
use Rattle.cc_points_solve.proofs.watching.add_edges.Given as goal

abbrev pub invariant-loop-watch : goal.invariant-loop-watch
invariant-loop-watch l = spec.edges_by l.view l.layout (drop l.watch-index l.row) l.target l.out.items ≡ spec.edges_by l.view l.layout l.row l.target l.initial.out.items
