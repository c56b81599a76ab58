use Rattle.std.proofs.Common.{rules, ◌≡◌, ◌≢◌, ℕ, ◌+◌, ◌-◌, ◌*◌, ◌/◌, ◌%◌, ◌<◌, ◌≤◌, max, length, Bool, true, false, List, [], ◌∷◌, ◌++◌, slice_index_or, slice_set, refl, sym, ap, ◌∙◌, subst, arith, length-set}
use Rattle.std.specs.Prelude.{slice_get}
use Rattle.std.proofs.lemmas.Option.{slice_get_read, slice_get-get_or}
use Rattle.cc_blocks.specs.declared.row.Row.{Row}
use Rattle.cc_blocks.specs.Cells.{row_bit, row_size, block_bit}
use Rattle.cc_blocks.specs.Pairs.{pair_bit, pair_count}
use Rattle.cc_blocks.proofs.Ranks
use Rattle.cc_blocks.proofs.Tables
use Rattle.cc_blocks.proofs.table.Rows.take.Goals as goal

pub returns-clause-row : goal.returns-clause-row
returns-clause-row c =
    let rows = c.args.self.now.rows.items in
    let at = slice_get_read rows (length rows) c.args.holder c.index_mut.result.now refl c.requires c.index_mut.ensures.value in
    λ t. ap (λ (r : Row). row_bit r.cells.items t) c.replace.ensures.value ∙ sym (Tables.pair_bit-row rows c.args.holder c.index_mut.result.now at t)

pub returns-clause-at : goal.returns-clause-at
unfolding row_bit
returns-clause-at c = λ t.
    Tables.pair_bit-set_at c.args.self.now.rows.items c.args.holder c.replace.new.dest t c.requires ∙ ap (λ (r : Row). row_bit r.cells.items t) c.replace.ensures.after ∙ ap (λ xs. row_bit xs t) c.new.ensures

pub returns-clause-others : goal.returns-clause-others
returns-clause-others c = λ h t ne. Tables.pair_bit-set_other c.args.self.now.rows.items c.args.holder h c.replace.new.dest t ne
