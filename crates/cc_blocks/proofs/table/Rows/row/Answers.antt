use Rattle.std.proofs.Common.{rules, ◌≡◌, ◌≢◌, ℕ, ◌+◌, ◌-◌, ◌*◌, ◌/◌, ◌%◌, ◌<◌, ◌≤◌, max, length, Bool, true, false, List, [], ◌∷◌, ◌++◌, slice_index_or, slice_set, refl, sym, ap, ◌∙◌, subst, arith, length-set}
use Rattle.std.specs.Prelude.{slice_get}
use Rattle.std.proofs.lemmas.Option.{slice_get_read, slice_get-get_or}
use Rattle.cc_blocks.specs.declared.row.Row.{Row}
use Rattle.cc_blocks.specs.Cells.{row_bit, row_size, block_bit}
use Rattle.cc_blocks.specs.Pairs.{pair_bit, pair_count}
use Rattle.cc_blocks.proofs.Ranks
use Rattle.cc_blocks.proofs.Tables
use Rattle.cc_blocks.proofs.table.Rows.row.Goals as goal

pub returns : goal.returns
returns c =
    let rows = c.args.self.now.rows.items in
    λ t. sym (Tables.pair_bit-row rows c.args.holder c.index.result.now (slice_get_read rows (length rows) c.args.holder c.index.result.now refl c.requires c.index.ensures) t)
