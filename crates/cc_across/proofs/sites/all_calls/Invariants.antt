use Rattle.std.specs.Prelude.{Contains, ◌↔◌}
use Rattle.cc_across.specs.Calling.{IsCall}
use Rattle.cc_across.specs.Pairs.{Pair}
use Rattle.cc_across.proofs.sites.all_calls.Given as goal

abbrev pub invariant-loop-n : goal.invariant-loop-n
invariant-loop-n l = (x : Pair) → Contains l.pairs.items x ↔ IsCall l.graph l.facts l.n x
