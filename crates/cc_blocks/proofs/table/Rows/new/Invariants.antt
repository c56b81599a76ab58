use Rattle.std.proofs.Common.{◌≡◌, ℕ, length}
use Rattle.cc_blocks.specs.Pairs.{pair_bit, pair_count}
use Rattle.cc_blocks.proofs.table.Rows.new.Given as goal

abbrev pub invariant-loop : goal.invariant-loop
invariant-loop l = record {
  holders : length l.rows.items ≡ l.counter;
  none : (h t : ℕ) → pair_bit l.rows.items h t ≡ 0;
  count : pair_count l.rows.items ≡ 0;
}
