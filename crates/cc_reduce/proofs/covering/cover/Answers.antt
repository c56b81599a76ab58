use Rattle.std.proofs.Common.{length, get_or, ◌<◌, arith}
use Rattle.std.proofs.lemmas.Option.{slice_get-get_or}
use Rattle.cc_reduce.proofs.Marked.{covered_init, covered_new, covered_old}
use Rattle.cc_reduce.proofs.covering.cover.Goals as goal
use Rattle.cc_reduce.proofs.covering.cover.Goals.{then-is_open, else-is_open}

pub loop-row-init : goal.loop-row-init
loop-row-init c = covered_init c.args.covered.now c.args.rows.now

pub loop-row-preserved : goal.loop-row-preserved
loop-row-preserved c =
    let rows = c.args.rows.now in
    let i = c.loop-row.row-index in
    let within : i < length rows = omega arith in
    let row = slice_get-get_or rows i 0 within in
    elim c.if-is_open.branch [
      | then-is_open w ↦
          let is_open = c.is_open.ensures.open w.if-is_open.true in
          rw w.covered-is (rw w.added-is (covered_new c.args.covered.now rows i c.loop-row.covered c.loop-row.added (get_or rows i 0) c.loop-row.invariant row is_open.0 is_open.1))
      | else-is_open w ↦ rw w.covered-is (rw w.added-is (covered_old c.args.covered.now rows i c.loop-row.covered c.loop-row.added (get_or rows i 0) c.loop-row.invariant row (c.is_open.ensures.closed w.if-is_open.false)))
    ]
