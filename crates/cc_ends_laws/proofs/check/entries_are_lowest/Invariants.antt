use Rattle.std.proofs.Common.{◌≡◌, ℕ, ◌<◌, Some}
use Rattle.std.specs.Prelude.{slice_get}
use Rattle.cc_ends_laws.specs.Ranks.{rank}
use Rattle.cc_ends_laws.proofs.check.entries_are_lowest.Given as goal

abbrev pub invariant-loop-f : goal.invariant-loop-f
invariant-loop-f l = (f e : ℕ) → f < l.f → slice_get l.acts.entries f ≡ Some (Some e) → rank l.ranks e ≡ 0
