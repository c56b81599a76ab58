-- One more row.
use Rattle.std.proofs.Common.{◌≡◌, ℕ, suc, ◌+◌, List, Option, Bool, cond, ap, arith}
use Rattle.std.specs.Prelude.{slice_get, is_some}
use Rattle.cc_meaning.specs.declared.coupling.Coupling.{Coupling}
use Rattle.cc_meaning.specs.declared.score.RowReason.{RowReason}
use Rattle.cc_score.specs.Marks.{mark, has_reason}
use Rattle.cc_score.specs.Counts as spec
use Rattle.cc_score.specs.Conflicts as conflicts

module _ (rows : List Coupling) (marks : List (Option ℕ)) (reasons : Option (List (Option RowReason))) where
  pub rows_more : (calls : Bool) (count : ℕ) → spec.rows_to rows marks reasons calls (count + 1)
      ≡ cond (spec.same calls (spec.is_call (slice_get rows count))) (spec.one_more (spec.rows_to rows marks reasons calls count) (is_some (mark marks count)) (has_reason reasons count)) (spec.rows_to rows marks reasons calls count)
  rows_more calls count = let e : count + 1 ≡ suc count = omega arith in ap (spec.rows_to rows marks reasons calls) e

  pub defs_more : (count : ℕ) → spec.defs_to rows marks reasons (count + 1) ≡ spec.with_definition rows marks reasons (spec.defs_to rows marks reasons count) (spec.new_definition rows count)
  defs_more count = let e : count + 1 ≡ suc count = omega arith in ap (spec.defs_to rows marks reasons) e

pub least_more : (marks : List (Option ℕ)) (reasons : List (Option RowReason)) (count : ℕ) → conflicts.least_to marks reasons (count + 1) ≡ conflicts.less (conflicts.least_to marks reasons count) (conflicts.at marks reasons count)
least_more marks reasons count = let e : count + 1 ≡ suc count = omega arith in ap (conflicts.least_to marks reasons) e
