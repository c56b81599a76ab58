use Rattle.std.proofs.Common.{ap, refl, ◌∙◌, ◌++◌, string_bytes, arith}
use Rattle.cc_tables.specs.Ends.{end_text}
use Rattle.cc_tables.specs.Records.{written}
use Rattle.cc_tables.proofs.Done.{test_done}
use Rattle.cc_tables.proofs.tests.put_test.Goals as goal

pub returns : goal.returns
returns c =
    let program = c.args.program.now in
    let test = c.args.test.now in (
      c.loop-i.invariant.0,
      c.loop-i.invariant.1 ∙ ap (λ text. written c.args.records.now ++ text)
          (test_done program c.args.scores.now c.args.number test test.name c.rows_of-rows.result.now (string_bytes c.in_ok-ending.ending) c.loop-i.i refl c.rows_of-rows.ensures
          (c.in_ok-ending.ensures ∙ ap (end_text program) c.ending_of.ensures) (omega arith) (λ none. c.if-len-eq0.false (omega arith))),
    )
