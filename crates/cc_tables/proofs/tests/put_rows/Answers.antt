use Rattle.std.proofs.Common.{◌<◌, ap, sym, length, ◌∙◌, ◌++◌, arith}
use Rattle.std.proofs.lemmas.Option.{slice_get-get_or}
use Rattle.cc_tables.specs.Records.{written}
use Rattle.cc_tables.specs.TestTable.{numbered_text, rows_to}
use Rattle.cc_tables.proofs.More.{numbered_more}
use Rattle.cc_tables.proofs.Put.{written_more}
use Rattle.cc_tables.proofs.tests.put_rows.Goals as goal

pub loop-row-preserved : goal.loop-row-preserved
loop-row-preserved c =
    let test = c.args.test.now in
    let requirement = c.args.requirement.now in
    let rows = c.args.rows.now in
    let ending = c.args.ending.now in
    let i = c.loop-row.row-index in
    let within : i < length rows = omega arith in
    let put = c.in_ok-put_numbered.ensures in
    let row = ap (numbered_text test requirement ending) (sym (slice_get-get_or rows i 0 within)) in (
      put.0,
      written_more (written c.args.records.now) (written c.loop-row.records) (written c.put_numbered.new.records) (rows_to test requirement rows ending i) _ _
          (put.1 ∙ ap (λ text. written c.loop-row.records ++ text) row) c.loop-row.invariant.1 (numbered_more test requirement rows ending i),
    )
