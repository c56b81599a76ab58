use Rattle.std.proofs.Common.{◌≡◌, ℕ}
use Rattle.std.specs.Prelude.{slice_get}
use Rattle.std.specs.Option.{option_map}
use Rattle.cc_score.specs.Firsts.{has_to, or_test}
use Rattle.cc_score.proofs.firsts.mark_rows.Given as goal

abbrev pub invariant-loop-row : goal.invariant-loop-row
invariant-loop-row l = (k : ℕ) → slice_get l.first k ≡ option_map (λ mark. or_test mark (has_to l.rows k l.row-index) l.test) (slice_get l.initial.first k)
