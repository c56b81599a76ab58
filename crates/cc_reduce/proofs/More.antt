-- One more test or place.
use Rattle.std.proofs.Common.{◌≡◌, ℕ, suc, ◌+◌, List, ◌++◌, Bool, ap, arith}
use Rattle.std.specs.Prelude.{slice_get}
use Rattle.cc_meaning.specs.declared.score.Scores.{Scores}
use Rattle.cc_meaning.specs.declared.test.Test.{Test}
use Rattle.cc_score.specs.Counts.{one_if}
use Rattle.cc_reduce.specs.Rows.{at, count_to}
use Rattle.cc_reduce.specs.Texts as spec

pub kept_more : (scores : Scores) (kept : List Bool) (tests : List Test) (count : ℕ)
    → spec.kept_to scores kept tests (count + 1) ≡ spec.kept_to scores kept tests count ++ spec.kept_text scores kept tests count
kept_more scores kept tests count = let e : count + 1 ≡ suc count = omega arith in ap (spec.kept_to scores kept tests) e

pub kept_count_more : (kept : List Bool) (count : ℕ) → count_to (λ i. at kept i) (count + 1) ≡ count_to (λ i. at kept i) count + one_if (at kept count)
kept_count_more kept count = let e : count + 1 ≡ suc count = omega arith in ap (count_to (λ i. at kept i)) e

pub places_more : (scores : Scores) (order : List ℕ) (tests : List Test) (count : ℕ)
    → spec.places_to scores order tests (count + 1) ≡ spec.places_to scores order tests count ++ spec.place_text scores order tests count (slice_get order count)
places_more scores order tests count = let e : count + 1 ≡ suc count = omega arith in ap (spec.places_to scores order tests) e
