use Rattle.std.proofs.Common.{◌≡◌, ℕ, ◌+◌, ◌≤◌, arith, refl, ap, ◌∙◌, take, List}
use Rattle.cc_blocks.specs.declared.row.Row.{Row}
use Rattle.cc_blocks.specs.Pairs.{pair_count}
use Rattle.cc_blocks.proofs.Places
use Rattle.cc_blocks.proofs.table.Rows.count_below.Goals as goal

pub loop-holder-init : goal.loop-holder-init
unfolding pair_count
loop-holder-init c = record { counts = refl; bound = omega arith }

pub loop-holder-preserved : goal.loop-holder-preserved
loop-holder-preserved c = record {
  counts = omega (arith, Places.pair_count-step c.args.self.now.rows.items c.loop-holder.holder, c.count_at-count.ensures.count, c.loop-holder.invariant.counts);
  bound = omega (arith, c.count_at-count.ensures.bound, c.loop-holder.invariant.bound);
}
