use Rattle.std.proofs.Common.{sym, ◌∙◌}
use Rattle.cc_record_tables.specs.Sets.{seen_in}
use Rattle.cc_scoring.proofs.Few.{few_components}
use Rattle.cc_scoring.proofs.Scores.{row_set}
use Rattle.cc_scoring.proofs.scoring.score_test.Goals as goal

pub returns-in_ok-rows_in-in-Some-clause-scored : goal.returns-in_ok-rows_in-in-Some-clause-scored
returns-in_ok-rows_in-in-Some-clause-scored g c =
    let ran = c.in_ok-run_test.ensures in
    let orderly = c.runs_are_orderly.ensures c.args.acts.now c.args.test.now ran.0 c.in_ok-run_test.field-0 c.requires.entered ran.1 in
    λ p is. record {
      events = ran.0;
      stop = c.in_ok-run_test.field-0;
      is_run = ran.1;
      is_end = sym c.end_of.ensures ∙ c.in-Some.is;
      is_set = row_set p c.args.listing.now ran.0 (seen_in c.exercised.result.now) c.in_ok-rows_in-in-Some.field-0 c.in_ok-rows_in-in-Some.ensures
          (c.exercised.ensures p ran.0 (ran.2 p is) (few_components p (c.requires.few p is)) orderly);
    }
