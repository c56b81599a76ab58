use Rattle.std.proofs.Common.{◌≡◌, ℕ, ◌<◌, Some}
use Rattle.std.specs.Prelude.{slice_get}
use Rattle.cc_acts.specs.declared.acts.Node.{Node}
use Rattle.cc_ends_laws.specs.Ranks.{LeadsDown, limit, rank}
use Rattle.cc_ends_laws.proofs.check.points_lead_down.Given as goal

abbrev pub invariant-loop-p : goal.invariant-loop-p
invariant-loop-p l = (p : ℕ) (n : Node) → p < l.p → slice_get l.acts.nodes p ≡ Some n → rank l.ranks p < l.steps → LeadsDown l.ranks l.acts.cases (limit n.takes_turn l.steps (rank l.ranks p)) n.act
