use Rattle.std.proofs.Common.{◌≡◌, ℕ, suc, ◌-◌, ◌<◌, List, Some, Bool, true, false, length, replicate, ap, ◌∙◌, subst, arith}
use Rattle.std.specs.Prelude.{◌||◌}
use Rattle.cc_reduce.specs.Rows.{at}
use Rattle.cc_score.specs.Firsts.{exercises, marks_to}
use Rattle.cc_reduce.proofs.Looked.{IsLooked, looked_init, looked_kept, looked_out}
use Rattle.cc_reduce.proofs.reducing.reduce.Goals as goal

pub loop-test-init : goal.loop-test-init
loop-test-init c =
    let sets = c.args.scores.now.exercised in
    let rows = length c.args.listing.now in
    let later : c.in_ok-later.later.items ≡ replicate rows false = c.in_ok-later.ensures.items_if_clones_equal (λ y e. e) ∙ ap (λ n. replicate n false) c.len-3.ensures in
    let kept : c.in_ok-kept.kept.items ≡ replicate (length sets) true = c.in_ok-kept.ensures.items_if_clones_equal (λ y e. e) ∙ ap (λ n. replicate n true) c.len-4.ensures in
    let all : c.len-test.result ≡ length sets = c.len-test.ensures in
    rw all (rw later (rw kept (looked_init sets rows)))

pub loop-test-preserved-then-is_needed : goal.loop-test-preserved-then-is_needed
loop-test-preserved-then-is_needed c =
    let sets = c.args.scores.now.exercised in
    let rows = length c.args.listing.now in
    let test = c.loop-test.test - 1 in
    let e : c.loop-test.test ≡ suc (c.loop-test.test - 1) = omega arith in
    let within : c.loop-test.test - 1 < length sets = omega arith in
    looked_kept sets rows test c.loop-test.later.items c.loop-test.kept.items
    (subst (λ (t : ℕ). IsLooked sets rows t c.loop-test.later.items c.loop-test.kept.items) e c.loop-test.invariant) within
    _ c.deref.result.now c.rows_of-rows.result.now c.has_new-is_needed.result
    (c.in_ok-first.ensures ∙ ap (marks_to sets) c.len-2.ensures) c.deref.ensures.value c.rows_of-rows.ensures c.has_new-is_needed.ensures
    c.loop-test.later.len c.cover.new.covered c.if-is_needed.true (omega arith) (omega arith)
    (subst (λ (l : List Bool). (row : ℕ) → row < length l → at c.cover.new.covered row ≡ at l row || exercises (Some c.rows_of-rows.result.now) row) c.deref_mut.ensures.value c.cover.ensures.covered)

pub loop-test-preserved : goal.loop-test-preserved
loop-test-preserved c =
    let sets = c.args.scores.now.exercised in
    let rows = length c.args.listing.now in
    let test = c.loop-test.test - 1 in
    let e : c.loop-test.test ≡ suc (c.loop-test.test - 1) = omega arith in
    let within : c.loop-test.test - 1 < length sets = omega arith in
    looked_out sets rows test c.loop-test.later.items c.loop-test.kept.items
    (subst (λ (t : ℕ). IsLooked sets rows t c.loop-test.later.items c.loop-test.kept.items) e c.loop-test.invariant) within
    _ c.deref.result.now c.rows_of-rows.result.now c.has_new-is_needed.result
    (c.in_ok-first.ensures ∙ ap (marks_to sets) c.len-2.ensures) c.deref.ensures.value c.rows_of-rows.ensures c.has_new-is_needed.ensures c.if-is_needed.false
