use Rattle.std.proofs.Common.{◌≡◌, ℕ, ◌<◌, List, [], ◌∷◌, ◌++◌, Some, Bool, true, length, set, sym, subst, arith}
use Rattle.std.specs.Prelude.{◌||◌}
use Rattle.cc_score.specs.Firsts.{exercises}
use Rattle.cc_reduce.specs.Rows.{at}
use Rattle.cc_reduce.proofs.Best.{IsTaken, best_at, fewer, taken_more}
use Rattle.cc_reduce.proofs.Looked.{spliced}
use Rattle.cc_reduce.proofs.ordering.order.Goals as goal

pub loop-test-smaller : goal.loop-test-smaller
loop-test-smaller c =
    let best = best_at c.args.scores.now.exercised c.deref.result.now c.loop-test.covered.items c.deref-in-loop-test.result.now c.loop-test.taken.items c.in-Some.test
    c.deref.ensures.value c.deref-in-loop-test.ensures.value c.in-Some.ensures.some in
    fewer c.loop-test.taken.items c.in-Some.test best.within best.is_free

pub loop-test-preserved : goal.loop-test-preserved
loop-test-preserved c =
    let sets = c.args.scores.now.exercised in
    let rows = length c.args.listing.now in
    let covered = c.loop-test.covered.items in
    let taken = c.loop-test.taken.items in
    let order = c.loop-test.order in
    let test = c.in-Some.test in
    let new = c.cover.new.covered in
    let best = best_at sets c.deref.result.now covered c.deref-in-loop-test.result.now taken test c.deref.ensures.value c.deref-in-loop-test.ensures.value c.in-Some.ensures.some in
    let marks = subst (λ (l : List Bool). (row : ℕ) → row < length l → at c.cover.new.covered row ≡ at l row || exercises (Some c.rows_of.result.now) row) c.deref_mut.ensures.value c.cover.ensures.covered in
    let marks_set = subst (λ (s : List ℕ). (row : ℕ) → row < length c.loop-test.covered.items → at c.cover.new.covered row ≡ at c.loop-test.covered.items row || exercises (Some s) row) c.rows_of.ensures marks in
    rw c.in_ok-push.ensures.ok
    (subst (λ (l : List Bool). IsTaken c.args.scores.now.exercised (length c.args.listing.now) l (set c.loop-test.taken.items c.in-Some.test true) (c.loop-test.order ++ c.in-Some.test ∷ []))
    (sym (spliced c.loop-test.covered.len new covered (omega arith)))
    (taken_more sets rows covered taken order c.loop-test.invariant test new best (omega arith) marks_set))
