use Rattle.std.proofs.Common.{arith, sym, ◌∙◌}
use Rattle.std.proofs.lemmas.Bool.{true≢false}
use Rattle.cc_record_tables.specs.Sets.{seen_in}
use Rattle.cc_scoring.proofs.Numbers.{all_rows, row_in, row_out}
use Rattle.cc_scoring.proofs.rows.rows_in.Goals.{then-has+in_ok-push, else-has}
use Rattle.cc_scoring.proofs.rows.rows_in.Goals as goal

pub loop-row-preserved : goal.loop-row-preserved
loop-row-preserved c =
    let rows = c.args.listing.now in
    let seen = seen_in c.args.set.now in
    elim c.if-has.branch [
      | then-has+in_ok-push w ↦
          rw (w.rows-is, w.in_ok-push.ensures.ok) (row_in rows seen c.loop-row.rows c.loop-row.row c.row.result.now c.row.ensures (c.has.ensures.0 w.if-has.true) c.loop-row.invariant)
      | else-has w ↦
          rw w.rows-is (row_out rows seen c.loop-row.rows c.loop-row.row c.row.result.now c.row.ensures (λ h. true≢false (sym (c.has.ensures.1 h) ∙ w.if-has.false)) c.loop-row.invariant)
    ]

pub returns : goal.returns
returns c =
    let long = c.len-row-end.ensures in
    let past = c.loop-row-test.false in
    let within = c.loop-row.auto.row-end in
    all_rows c.args.listing.now (seen_in c.args.set.now) c.loop-row.rows c.loop-row.row (omega arith) c.loop-row.invariant
