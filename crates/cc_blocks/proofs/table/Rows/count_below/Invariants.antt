use Rattle.std.proofs.Common.{◌≡◌, ◌≤◌, ◌*◌, take}
use Rattle.cc_blocks.specs.Pairs.{pair_count}
use Rattle.cc_blocks.proofs.table.Rows.count_below.Given as goal

abbrev pub invariant-loop-holder : goal.invariant-loop-holder
invariant-loop-holder l = record {
  counts : l.count ≡ pair_count (take l.holder l.self.rows.items);
  bound : l.count ≤ 4294967296 * l.holder;
}
