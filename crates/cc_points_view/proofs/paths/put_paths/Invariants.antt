use Rattle.std.proofs.Common.{◌≡◌, drop}
use Rattle.cc_points_view.specs.Paths.{with_paths}
use Rattle.cc_points_view.proofs.paths.put_paths.Given as goal

abbrev pub invariant-loop-q : goal.invariant-loop-q
invariant-loop-q l = with_paths (drop l.q l.parts) l.tables ≡ with_paths l.parts l.initial.tables
