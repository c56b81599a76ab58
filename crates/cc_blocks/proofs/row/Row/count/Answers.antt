use Rattle.std.proofs.Common.{rules, ◌≡◌, ℕ, ◌+◌, ◌*◌, ◌<◌, ◌≤◌, take, length, List, slice_index_or, refl, sym, ap, ◌∙◌, arith}
use Rattle.std.specs.Prelude.{slice_get}
use Rattle.std.proofs.lemmas.Option.{slice_get_read}
use Rattle.std.proofs.lemmas.List.{take_all}
use Rattle.cc_blocks.specs.declared.cell.Cell.{Cell}
use Rattle.cc_blocks.specs.Bits.{size}
use Rattle.cc_blocks.specs.Cells.{row_size}
use Rattle.cc_blocks.proofs.Sizes.{size-le}
use Rattle.cc_blocks.proofs.Places
use Rattle.cc_blocks.proofs.Ranks
use Rattle.cc_blocks.proofs.row.Row.count.Goals as goal

pub loop-cell-init : goal.loop-cell-init
unfolding row_size
loop-cell-init c = record { counts = refl; bound = omega arith }

pub overflow_add-count : goal.overflow_add-count
overflow_add-count c =
    let items = c.args.self.now.cells.items in
    let lt : c.loop-cell.cell-index < length items = omega (arith, ap (λ (xs : List Cell). length xs) c.deref-cell-items.ensures.value, c.loop-cell-test.true) in
    record { fits = omega (arith, c.count.ensures, c.from-count.ensures, size-le c.cell-item.result.block, c.loop-cell.invariant.bound, lt, Ranks.ascending-length 0 items c.args.self.now.ascending) }

pub loop-cell-preserved : goal.loop-cell-preserved
loop-cell-preserved c =
    let items = c.args.self.now.cells.items in
    let cell = c.cell-item.result in
    let i = c.loop-cell.cell-index in
    let lt : i < length items = omega (arith, ap (λ (xs : List Cell). length xs) c.deref-cell-items.ensures.value, c.loop-cell-test.true) in
    let at = slice_get_read items (length items) i cell refl lt (c.cell-item.is ∙ ap (λ xs. slice_index_or xs i cell) c.deref-cell-items.ensures.value) in
    record {
      counts = omega (arith, Places.row_size-next items i cell at, c.count.ensures, c.from-count.ensures, c.loop-cell.invariant.counts);
      bound = omega (arith, c.count.ensures, c.from-count.ensures, size-le cell.block, c.loop-cell.invariant.bound);
    }

pub returns-clause-count : goal.returns-clause-count
returns-clause-count c =
    let items = c.args.self.now.cells.items in
    let whole : take c.loop-cell.cell-index items ≡ items = take_all c.loop-cell.cell-index items (omega (arith, ap (λ (xs : List Cell). length xs) c.deref-cell-items.ensures.value, c.loop-cell-test.false)) in
    c.loop-cell.invariant.counts ∙ ap row_size whole

pub returns-clause-bound : goal.returns-clause-bound
returns-clause-bound c =
    let items = c.args.self.now.cells.items in
    omega (arith, ap (λ (xs : List Cell). length xs) c.deref-cell-items.ensures.value, c.loop-cell.invariant.bound, Ranks.ascending-length 0 items c.args.self.now.ascending)
