use Rattle.std.proofs.Common.{◌≡◌, List, length, refl, ap, ◌∙◌, subst, slice_index_or, arith}
use Rattle.cc_meaning.specs.declared.test.Test.{Test}
use Rattle.std.proofs.lemmas.Option.{slice_get_read}
use Rattle.cc_score.specs.Firsts.{marks_to}
use Rattle.cc_scoring.specs.Scored.{AreScored}
use Rattle.cc_scoring.proofs.Scores.{test_more}
use Rattle.cc_scoring.proofs.scoring.score_of.Goals as goal

pub loop-test-preserved : goal.loop-test-preserved
loop-test-preserved g c =
    let it = c.in_ok-score.score in
    let scored = c.in_ok-score.ensures.scored c.args.program.now c.requires.named in (
      c.in_ok-score.ensures.ready,
      rw (c.in_ok-push.ensures.ok, c.in_ok-push-2.ensures.ok)
          (test_more c.args.program.now c.args.acts.now c.args.listing.now c.args.tests.now c.loop-test.exercised c.loop-test.ends c.loop-test.test-index c.test-item.result it.exercised it.end
          (slice_get_read c.args.tests.now (length c.args.tests.now) c.loop-test.test-index c.test-item.result refl (let before = c.loop-test-test.true in let all : length c.as_slice-test-items.result.now ≡ length c.args.tests.now = ap (λ (xs : List Test). length xs) c.as_slice-test-items.ensures in omega arith) (c.test-item.is ∙ ap (λ (xs : List Test). slice_index_or xs c.loop-test.test-index c.test-item.result) c.as_slice-test-items.ensures)) scored c.loop-test.invariant.1),
    )

pub returns-clause-scored : goal.returns-clause-scored
returns-clause-scored g c =
    let past = c.loop-test-test.false in
    let within = c.loop-test.auto.test-index-end in
    let all : length c.as_slice-test-items.result.now ≡ length c.args.tests.now = ap (λ (xs : List Test). length xs) c.as_slice-test-items.ensures in
    let whole : c.loop-test.test-index ≡ length c.args.tests.now = omega arith in
    record {
      runs = subst (AreScored c.args.program.now c.args.acts.now c.args.listing.now c.args.tests.now c.loop-test.exercised c.loop-test.ends) whole c.loop-test.invariant.1;
      marks = c.in_ok-marks.ensures ∙ ap (marks_to c.loop-test.exercised) c.len-2.ensures;
    }
