use Rattle.std.proofs.Common.{◌≡◌, ◌++◌, ap, ◌∙◌, arith}
use Rattle.cc_score.specs.Counts.{one_if}
use Rattle.cc_tables.specs.Records.{record_text, written}
use Rattle.cc_tables.proofs.Put.{written_more}
use Rattle.cc_reduce.specs.Rows.{at}
use Rattle.cc_reduce.specs.Texts.{kept_to, reduce_header}
use Rattle.cc_reduce.proofs.More.{kept_count_more, kept_more}
use Rattle.cc_reduce.proofs.Placed.{mark_same}
use Rattle.cc_reduce.proofs.tables.reduce_csv.Goals as goal

pub loop-test-preserved : goal.loop-test-preserved
loop-test-preserved c =
    let scores = c.args.scores.now in
    let marks = c.args.marks.now in
    let tests = c.args.tests.now in
    let test = c.loop-test.test in
    let put = c.in_ok-put_mark.ensures in
    let text = mark_same scores marks tests test c.name_of.result.now c.is_marked-is_kept.result c.rows_of-rows.result.now c.name_of.ensures c.is_marked-is_kept.ensures c.rows_of-rows.ensures in
    let one : c.one_if.result ≡ one_if (at c.args.marks.now c.loop-test.test) = c.one_if.ensures.value ∙ ap one_if c.is_marked-is_kept.ensures in
    let count = c.loop-test.invariant.count in
    let few = c.loop-test.invariant.few in
    let bound = c.one_if.ensures.bound in
    let next = kept_count_more c.args.marks.now c.loop-test.test in
    record {
      fresh = put.0;
      text = written_more (record_text reduce_header) (written c.loop-test.records) (written c.put_mark.new.records) (kept_to scores marks tests test) _ _
          (put.1 ∙ ap (λ t. written c.loop-test.records ++ t) text) c.loop-test.invariant.text (kept_more scores marks tests test);
      count = omega arith;
      few = omega arith;
    }
