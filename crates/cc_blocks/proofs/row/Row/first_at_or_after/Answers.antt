use Rattle.std.proofs.Common.{rules, ◌≡◌, ◌≢◌, ℕ, ◌+◌, ◌-◌, ◌*◌, ◌/◌, ◌%◌, ◌<◌, ◌≤◌, max, length, take, drop, Bool, true, false, List, [], ◌∷◌, ◌++◌, slice_index_or, slice_set, refl, sym, ap, ◌∙◌, subst, arith}
use Rattle.std.specs.Prelude.{slice_get}
use Rattle.std.proofs.lemmas.Option.{slice_get_read, slice_get-get_or}
use Rattle.cc_blocks.specs.Bits.{bit, size}
use Rattle.cc_blocks.proofs.Sizes.{size-le, bit-lt}
use Rattle.cc_blocks.specs.declared.cell.Cell.{Cell}
use Rattle.cc_blocks.specs.Cells.{block_bit, row_bit, row_size, AreAscending, rank_of}
use Rattle.cc_blocks.proofs.Ranks
use Rattle.cc_blocks.proofs.Edits
use Rattle.cc_blocks.proofs.row.Row.first_at_or_after.Goals as goal
use Rattle.cc_blocks.proofs.row.Row.first_at_or_after.Goals.{then-cell-number, else-cell-number}
use Rattle.std.proofs.lemmas.List.{drop_all}

pub loop-at-init : goal.loop-at-init
loop-at-init c =
    let cells = c.args.self.now.cells.items in
    let lo : ℕ = c.args.start / 512 in
    let e : c.rank-at.result ≡ rank_of cells lo = c.rank-at.ensures.rank ∙ ap (λ xs. rank_of xs lo) c.deref.ensures.value in
    record {
      within = omega (arith, Ranks.rank-le cells lo);
      up = subst (λ r. AreAscending lo (drop r cells)) (sym e) (Ranks.ascending-from_rank 0 cells lo (omega (arith, c.ranges.start)) c.args.self.now.ascending);
      rest = λ t le. ap (λ r. row_bit (drop r cells) t) e ∙ Ranks.row_bit-from_rank cells lo t (omega arith);
    }

pub overflow_mul-result : goal.overflow_mul-result
overflow_mul-result c =
    let s = c.args.self.now in
    let cells = s.cells.items in
    let at = c.loop-at.at in
    let cell = c.index-cell.result.now in
    let lt : at < length cells = omega (arith, c.len.ensures) in
    let got = slice_get_read cells (length cells) at cell refl lt c.index-cell.ensures in
    let split = Edits.drop_some cells at cell got in
    let up = rw split at c.loop-at.invariant.up in
    let low : (cell.number ≡ c.args.start / 512 → c.if-cell-number.low ≡ c.args.start % 512) × (cell.number ≢ c.args.start / 512 → c.if-cell-number.low ≡ 0) =
    elim c.if-cell-number.branch [
      | then-cell-number w ↦ (λ e. w.low-is, λ ne. absurd (ne w.if-cell-number.true))
      | else-cell-number w ↦ (λ e. absurd (w.if-cell-number.false e), λ ne. w.low-is)
    ] in
    record { fits = omega (arith, Ranks.ascending-number 0 cells at cell s.ascending got) }

pub overflow_add-result : goal.overflow_add-result
overflow_add-result c =
    let s = c.args.self.now in
    let cells = s.cells.items in
    let at = c.loop-at.at in
    let cell = c.index-cell.result.now in
    let lt : at < length cells = omega (arith, c.len.ensures) in
    let got = slice_get_read cells (length cells) at cell refl lt c.index-cell.ensures in
    let split = Edits.drop_some cells at cell got in
    let up = rw split at c.loop-at.invariant.up in
    let low : (cell.number ≡ c.args.start / 512 → c.if-cell-number.low ≡ c.args.start % 512) × (cell.number ≢ c.args.start / 512 → c.if-cell-number.low ≡ 0) =
    elim c.if-cell-number.branch [
      | then-cell-number w ↦ (λ e. w.low-is, λ ne. absurd (ne w.if-cell-number.true))
      | else-cell-number w ↦ (λ e. absurd (w.if-cell-number.false e), λ ne. w.low-is)
    ] in
    record { fits = omega (arith, Ranks.ascending-number 0 cells at cell s.ascending got, c.in-Some.ensures.some.1) }

pub returns-in-Some-clause-some : goal.returns-in-Some-clause-some
returns-in-Some-clause-some c =
    let s = c.args.self.now in
    let cells = s.cells.items in
    let at = c.loop-at.at in
    let cell = c.index-cell.result.now in
    let lt : at < length cells = omega (arith, c.len.ensures) in
    let got = slice_get_read cells (length cells) at cell refl lt c.index-cell.ensures in
    let split = Edits.drop_some cells at cell got in
    let up = rw split at c.loop-at.invariant.up in
    let low : (cell.number ≡ c.args.start / 512 → c.if-cell-number.low ≡ c.args.start % 512) × (cell.number ≢ c.args.start / 512 → c.if-cell-number.low ≡ 0) =
    elim c.if-cell-number.branch [
      | then-cell-number w ↦ (λ e. w.low-is, λ ne. absurd (ne w.if-cell-number.true))
      | else-cell-number w ↦ (λ e. absurd (w.if-cell-number.false e), λ ne. w.low-is)
    ] in
    let is = c.in-Some.ensures.some in
    let first = Edits.first c.args.start c.if-cell-number.low cell (drop (at + 1) cells) up low.0 low.1 c.in-Some.i is.0 is.1 is.2 is.3 in
    let same = λ (t : ℕ) (le : c.args.start ≤ t). sym (c.loop-at.invariant.rest t le) ∙ ap (λ xs. row_bit xs t) split in
    (first.0, same _ first.0 ∙ first.1, λ t le before. same t le ∙ first.2 t le before)

pub loop-at-preserved : goal.loop-at-preserved
loop-at-preserved c =
    let s = c.args.self.now in
    let cells = s.cells.items in
    let at = c.loop-at.at in
    let cell = c.index-cell.result.now in
    let lt : at < length cells = omega (arith, c.len.ensures) in
    let got = slice_get_read cells (length cells) at cell refl lt c.index-cell.ensures in
    let split = Edits.drop_some cells at cell got in
    let up = rw split at c.loop-at.invariant.up in
    let low : (cell.number ≡ c.args.start / 512 → c.if-cell-number.low ≡ c.args.start % 512) × (cell.number ≢ c.args.start / 512 → c.if-cell-number.low ≡ 0) =
    elim c.if-cell-number.branch [
      | then-cell-number w ↦ (λ e. w.low-is, λ ne. absurd (ne w.if-cell-number.true))
      | else-cell-number w ↦ (λ e. absurd (w.if-cell-number.false e), λ ne. w.low-is)
    ] in
    let none = c.in_default.ensures.none in
    record {
      within = omega arith;
      up = Edits.rest_ascending c.args.start c.if-cell-number.low cell (drop (at + 1) cells) up low.0 low.1;
      rest = λ t le. sym (Edits.skip c.args.start c.if-cell-number.low cell (drop (at + 1) cells) up low.0 low.1 none t le) ∙ ap (λ xs. row_bit xs t) (sym split) ∙ c.loop-at.invariant.rest t le;
    }

pub returns-clause-none : goal.returns-clause-none
unfolding row_bit
returns-clause-none c =
    let cells = c.args.self.now.cells.items in
    let end : c.loop-at.at ≡ length cells = omega (arith, c.len.ensures) in
    λ t le. sym (c.loop-at.invariant.rest t le) ∙ ap (λ xs. row_bit xs t) (ap (λ k. drop k cells) end ∙ drop_all (length cells) cells (omega arith))
