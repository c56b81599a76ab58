use Rattle.std.proofs.Common.{rules, ◌≡◌, ◌≢◌, ℕ, ◌+◌, ◌-◌, ◌*◌, ◌/◌, ◌%◌, ◌<◌, ◌≤◌, max, length, take, drop, Bool, true, false, List, [], ◌∷◌, ◌++◌, slice_index_or, slice_set, refl, sym, ap, ◌∙◌, subst, arith}
use Rattle.std.specs.Prelude.{slice_get}
use Rattle.std.proofs.lemmas.Option.{slice_get_read, slice_get-get_or}
use Rattle.cc_blocks.specs.Bits.{bit, size}
use Rattle.cc_blocks.proofs.Sizes.{size-le, bit-lt}
use Rattle.cc_blocks.specs.declared.cell.Cell.{Cell}
use Rattle.cc_blocks.specs.Cells.{block_bit, row_bit, row_size, AreAscending, rank_of}
use Rattle.cc_blocks.proofs.Ranks
use Rattle.cc_blocks.proofs.Edits
use Rattle.cc_blocks.proofs.row.Row.give.Goals as goal
use Rattle.std.proofs.lemmas.List.{take_all}

pub loop-cell-init : goal.loop-cell-init
loop-cell-init c = record { gives = Edits.gives_none c.args.self.now.cells.items c.args.fresh.now.cells.items; bound = omega arith }

pub give_block-requires : goal.give_block-requires
give_block-requires c =
    let items = c.args.from.now.cells.items in
    let cell = c.cell-item.result in
    let i = c.loop-cell.cell-index in
    let lt : i < length items = omega (arith, ap (λ (xs : List Cell). length xs) c.deref-cell-items.ensures.value, c.loop-cell-test.true) in
    let at = slice_get_read items (length items) i cell refl lt (c.cell-item.is ∙ ap (λ xs. slice_index_or xs i cell) c.deref-cell-items.ensures.value) in
    Ranks.ascending-number 0 items i cell c.args.from.now.ascending at

pub overflow_add-added : goal.overflow_add-added
overflow_add-added c =
    let items = c.args.from.now.cells.items in
    let cell = c.cell-item.result in
    let i = c.loop-cell.cell-index in
    let lt : i < length items = omega (arith, ap (λ (xs : List Cell). length xs) c.deref-cell-items.ensures.value, c.loop-cell-test.true) in
    let at = slice_get_read items (length items) i cell refl lt (c.cell-item.is ∙ ap (λ xs. slice_index_or xs i cell) c.deref-cell-items.ensures.value) in
    record { fits = omega (arith, c.in_ok-give_block.ensures.bound, c.from.ensures, c.loop-cell.invariant.bound, Ranks.ascending-length 0 items c.args.from.now.ascending) }

pub loop-cell-preserved : goal.loop-cell-preserved
loop-cell-preserved c =
    let items = c.args.from.now.cells.items in
    let cell = c.cell-item.result in
    let i = c.loop-cell.cell-index in
    let lt : i < length items = omega (arith, ap (λ (xs : List Cell). length xs) c.deref-cell-items.ensures.value, c.loop-cell-test.true) in
    let at = slice_get_read items (length items) i cell refl lt (c.cell-item.is ∙ ap (λ xs. slice_index_or xs i cell) c.deref-cell-items.ensures.value) in
    let e = c.in_ok-give_block.ensures in
    record {
      gives = rw (Edits.take_next items i cell at, c.from.ensures) (Edits.gives_on _ _ _ _ _ _ _ cell _ _ c.loop-cell.invariant.gives e.targets e.fresh e.count e.some e.none);
      bound = omega (arith, e.bound, c.from.ensures);
    }

pub returns-clause-targets : goal.returns-clause-targets
returns-clause-targets c =
    let items = c.args.from.now.cells.items in
    let whole : take c.loop-cell.cell-index items ≡ items = take_all c.loop-cell.cell-index items (omega (arith, ap (λ (xs : List Cell). length xs) c.deref-cell-items.ensures.value, c.loop-cell-test.false)) in
    let g = rw whole at c.loop-cell.invariant.gives in
    g.targets

pub returns-clause-fresh : goal.returns-clause-fresh
returns-clause-fresh c =
    let items = c.args.from.now.cells.items in
    let whole : take c.loop-cell.cell-index items ≡ items = take_all c.loop-cell.cell-index items (omega (arith, ap (λ (xs : List Cell). length xs) c.deref-cell-items.ensures.value, c.loop-cell-test.false)) in
    let g = rw whole at c.loop-cell.invariant.gives in
    g.news

pub returns-clause-count : goal.returns-clause-count
returns-clause-count c =
    let items = c.args.from.now.cells.items in
    let whole : take c.loop-cell.cell-index items ≡ items = take_all c.loop-cell.cell-index items (omega (arith, ap (λ (xs : List Cell). length xs) c.deref-cell-items.ensures.value, c.loop-cell-test.false)) in
    let g = rw whole at c.loop-cell.invariant.gives in
    g.count

pub returns-clause-some : goal.returns-clause-some
returns-clause-some c =
    let items = c.args.from.now.cells.items in
    let whole : take c.loop-cell.cell-index items ≡ items = take_all c.loop-cell.cell-index items (omega (arith, ap (λ (xs : List Cell). length xs) c.deref-cell-items.ensures.value, c.loop-cell-test.false)) in
    let g = rw whole at c.loop-cell.invariant.gives in
    g.some

pub returns-clause-none : goal.returns-clause-none
returns-clause-none c =
    let items = c.args.from.now.cells.items in
    let whole : take c.loop-cell.cell-index items ≡ items = take_all c.loop-cell.cell-index items (omega (arith, ap (λ (xs : List Cell). length xs) c.deref-cell-items.ensures.value, c.loop-cell-test.false)) in
    let g = rw whole at c.loop-cell.invariant.gives in
    g.none

pub returns-clause-bound : goal.returns-clause-bound
returns-clause-bound c =
    let items = c.args.from.now.cells.items in
    omega (arith, ap (λ (xs : List Cell). length xs) c.deref-cell-items.ensures.value, c.loop-cell.invariant.bound, Ranks.ascending-length 0 items c.args.from.now.ascending)
