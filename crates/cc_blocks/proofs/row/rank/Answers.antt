use Rattle.std.proofs.Common.{ℕ, ◌≡◌, ◌+◌, ◌-◌, ◌/◌, length, refl, arith}
use Rattle.std.proofs.lemmas.Option.{slice_get-get_or}
use Rattle.cc_blocks.proofs.Ranks.{rank-le, rank-above, rank-below}
use Rattle.cc_blocks.proofs.row.rank.Goals as goal

pub loop-low-init : goal.loop-low-init
loop-low-init c = record { low = omega arith; high = rank-le c.args.cells.now c.args.number; within = omega arith }

pub loop-low-preserved-then-cells-middle : goal.loop-low-preserved-then-cells-middle
loop-low-preserved-then-cells-middle c =
    let cells = c.args.cells.now in
    let k : ℕ = c.loop-low.low + (c.loop-low.high - c.loop-low.low) / 2 in
    let at = slice_get-get_or cells k c.index-cells-middle.result (omega arith) in
    record { low = omega (arith, rank-above 0 cells c.args.number k _ c.requires at c.if-cells-middle.true); high = c.loop-low.invariant.high; within = c.loop-low.invariant.within }

pub loop-low-preserved : goal.loop-low-preserved
loop-low-preserved c =
    let cells = c.args.cells.now in
    let k : ℕ = c.loop-low.low + (c.loop-low.high - c.loop-low.low) / 2 in
    let at = slice_get-get_or cells k c.index-cells-middle.result (omega arith) in
    record { low = c.loop-low.invariant.low; high = rank-below cells c.args.number k _ at c.if-cells-middle.false; within = omega arith }
