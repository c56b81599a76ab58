use Rattle.std.proofs.Common.{◌≡◌, drop}
use Rattle.cc_points_view.specs.Initialisers.{with_initialisers}
use Rattle.cc_points_view.proofs.initialisers.put_initialisers.Given as goal

abbrev pub invariant-loop-n : goal.invariant-loop-n
invariant-loop-n l = with_initialisers l.parts l.standings (drop l.n l.placed) l.n l.nodes ≡ with_initialisers l.parts l.standings l.placed 0 l.initial.nodes
