use Rattle.std.proofs.Common.{rules, ◌≡◌, ◌≢◌, ℕ, ◌+◌, ◌-◌, ◌*◌, ◌/◌, ◌%◌, ◌<◌, ◌≤◌, max, length, Bool, true, false, List, [], ◌∷◌, ◌++◌, slice_index_or, slice_set, refl, sym, ap, ◌∙◌, subst, arith, length-set}
use Rattle.std.specs.Prelude.{slice_get}
use Rattle.std.proofs.lemmas.Option.{slice_get_read, slice_get-get_or}
use Rattle.cc_blocks.specs.declared.row.Row.{Row}
use Rattle.cc_blocks.specs.Cells.{row_bit, row_size, block_bit}
use Rattle.cc_blocks.specs.Pairs.{pair_bit, pair_count}
use Rattle.cc_blocks.proofs.Ranks
use Rattle.cc_blocks.proofs.Tables
use Rattle.cc_blocks.proofs.table.Rows.give.Goals as goal

pub returns-clause-at : goal.returns-clause-at
returns-clause-at c =
    let rows = c.args.self.now.rows.items in
    let h = c.args.holder in
    let g = c.in_ok-added.ensures in
    let is = λ (t : ℕ). Tables.row_is rows h t c.index_mut.result.now c.requires.here c.index_mut.ensures.value in
    λ t. omega (arith, Tables.pair_bit-set_at rows h c.give.new.self t c.requires.here, g.targets t, is t)

pub returns-clause-others : goal.returns-clause-others
returns-clause-others c = λ h t ne. Tables.pair_bit-set_other c.args.self.now.rows.items c.args.holder h c.give.new.self t ne

pub returns-clause-fresh_at : goal.returns-clause-fresh_at
returns-clause-fresh_at c =
    let rows = c.args.self.now.rows.items in
    let h = c.args.holder in
    let g = c.in_ok-added.ensures in
    let is = λ (t : ℕ). Tables.row_is rows h t c.index_mut.result.now c.requires.here c.index_mut.ensures.value in
    let other = c.args.fresh.now.rows.items in
    let is' = λ (t : ℕ). Tables.row_is other h t c.index_mut-2.result.now c.requires.there c.index_mut-2.ensures.value in
    λ t. omega (arith, Tables.pair_bit-set_at other h c.give.new.fresh t c.requires.there, g.fresh t, is t, is' t)

pub returns-clause-fresh_others : goal.returns-clause-fresh_others
returns-clause-fresh_others c = λ h t ne. Tables.pair_bit-set_other c.args.fresh.now.rows.items c.args.holder h c.give.new.fresh t ne

pub returns-clause-count : goal.returns-clause-count
returns-clause-count c =
    let rows = c.args.self.now.rows.items in
    let h = c.args.holder in
    let g = c.in_ok-added.ensures in
    let is = λ (t : ℕ). Tables.row_is rows h t c.index_mut.result.now c.requires.here c.index_mut.ensures.value in
    let at = slice_get_read rows (length rows) h c.index_mut.result.now refl c.requires.here c.index_mut.ensures.value in
    omega (arith, Tables.pair_count-set rows h c.index_mut.result.now c.give.new.self at, g.count)

pub returns-clause-some : goal.returns-clause-some
returns-clause-some c =
    let rows = c.args.self.now.rows.items in
    let h = c.args.holder in
    let g = c.in_ok-added.ensures in
    let is = λ (t : ℕ). Tables.row_is rows h t c.index_mut.result.now c.requires.here c.index_mut.ensures.value in
    λ more. let s = g.some more in (s.0, s.1, sym (is s.0) ∙ s.2)

pub returns-clause-none : goal.returns-clause-none
returns-clause-none c =
    let rows = c.args.self.now.rows.items in
    let h = c.args.holder in
    let g = c.in_ok-added.ensures in
    let is = λ (t : ℕ). Tables.row_is rows h t c.index_mut.result.now c.requires.here c.index_mut.ensures.value in
    λ z t. omega (arith, g.none z t, is t)
