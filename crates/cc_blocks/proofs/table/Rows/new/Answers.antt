use Rattle.std.proofs.Common.{rules, ◌≡◌, ◌≢◌, ℕ, ◌+◌, ◌-◌, ◌*◌, ◌/◌, ◌%◌, ◌<◌, ◌≤◌, max, length, Bool, true, false, List, [], ◌∷◌, ◌++◌, slice_index_or, slice_set, refl, sym, ap, ◌∙◌, subst, arith, length-set}
use Rattle.std.specs.Prelude.{slice_get}
use Rattle.std.proofs.lemmas.Option.{slice_get_read, slice_get-get_or}
use Rattle.cc_blocks.specs.declared.row.Row.{Row}
use Rattle.cc_blocks.specs.Cells.{row_bit, row_size, block_bit}
use Rattle.cc_blocks.specs.Pairs.{pair_bit, pair_count}
use Rattle.cc_blocks.proofs.Ranks
use Rattle.cc_blocks.proofs.Tables
use Rattle.cc_blocks.proofs.table.Rows.new.Goals as goal
use Rattle.std.proofs.Common.{length-append}

pub loop-preserved : goal.loop-preserved
loop-preserved c = record {
  holders = rw c.in_ok-push.ensures.items (omega (arith, length-append c.loop.rows.items (c.new.result ∷ []), c.loop.invariant.holders));
  none = rw c.in_ok-push.ensures.items (Tables.pair_bit-push c.loop.rows.items c.new.result c.new.ensures c.loop.invariant.none);
  count = rw c.in_ok-push.ensures.items (Tables.pair_count-push c.loop.rows.items c.new.result c.new.ensures c.loop.invariant.count);
}

pub loop-init : goal.loop-init
unfolding pair_bit pair_count
loop-init c = record {
  holders = rw c.new-rows.ensures.items refl;
  none = rw c.new-rows.ensures.items (λ h t. refl);
  count = rw c.new-rows.ensures.items refl;
}
