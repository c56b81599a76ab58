use Rattle.std.proofs.Common.{◌≡◌, drop}
use Rattle.cc_points_view.specs.Standings.{place_from}
use Rattle.cc_points_view.proofs.standing.place_in.Given as goal

abbrev pub invariant-loop-other : goal.invariant-loop-other
invariant-loop-other l = place_from l.place (drop l.other-index l.list) l.n ≡ place_from 0 l.list l.n
