use Rattle.std.proofs.Common.{rules, ◌≡◌, ◌≢◌, ℕ, ◌+◌, ◌-◌, ◌*◌, ◌/◌, ◌%◌, ◌<◌, ◌≤◌, max, length, take, drop, Bool, true, false, List, [], ◌∷◌, ◌++◌, slice_index_or, slice_set, refl, sym, ap, ◌∙◌, subst, arith}
use Rattle.std.specs.Prelude.{slice_get}
use Rattle.std.proofs.lemmas.Option.{slice_get_read, slice_get-get_or}
use Rattle.cc_blocks.specs.Bits.{bit, size}
use Rattle.cc_blocks.proofs.Sizes.{size-le, bit-lt}
use Rattle.cc_blocks.specs.declared.cell.Cell.{Cell}
use Rattle.cc_blocks.specs.Cells.{block_bit, row_bit, row_size, AreAscending, rank_of}
use Rattle.cc_blocks.proofs.Ranks
use Rattle.cc_blocks.proofs.Edits
use Rattle.cc_blocks.proofs.row.Row.add_block.Goals as goal
use Rattle.cc_blocks.proofs.row.Row.add_block.Goals.{else-at-len-via-then-at-len+else-index-number, else-at-len-via-else-at-len}
use Rattle.std.proofs.Common.{Some}

same_number : (cells : List Cell) (r : ℕ) (x y : Cell) (n : ℕ) → slice_get cells r ≡ Some x → slice_get cells r ≡ Some y → x.number ≡ n → y.number ≡ n
same_number cells r x y n a b e = let same : y ≡ x = (let q = a in let q' = b in cc) in ap (λ (z : Cell). z.number) same ∙ e

pub invariant_of-self : goal.invariant_of-self
invariant_of-self c =
    let cells = c.args.self.now.cells.items in
    let n = c.args.number in
    let e : c.rank-at.result ≡ rank_of cells n = c.rank-at.ensures.rank ∙ ap (λ xs. rank_of xs n) c.deref.ensures.value in
    let lt : c.rank-at.result < length cells = omega (arith, c.len.ensures, c.if-at-len.true) in
    let at = slice_get_read cells (length cells) c.rank-at.result c.index-then-index-number.result.now refl lt c.index-then-index-number.ensures in
    let is : c.index-then-index-number.result.now.number ≡ n = same_number cells c.rank-at.result c.index.result.now c.index-then-index-number.result.now n (slice_get_read cells (length cells) c.rank-at.result c.index.result.now refl lt c.index.ensures) at c.if-index-number.true in
    record { ascending = Edits.joined_ascending cells n c.rank-at.result c.index-then-index-number.result.now c.args.block.now c.unite.new.self c.minus-more.result c.args.self.now.ascending e at is c.minus-more.ensures c.unite.ensures.bits }

pub returns-then-index-number-clause-ok : goal.returns-then-index-number-clause-ok
returns-then-index-number-clause-ok c =
    let cells = c.args.self.now.cells.items in
    let n = c.args.number in
    let e : c.rank-at.result ≡ rank_of cells n = c.rank-at.ensures.rank ∙ ap (λ xs. rank_of xs n) c.deref.ensures.value in
    let lt : c.rank-at.result < length cells = omega (arith, c.len.ensures, c.if-at-len.true) in
    let at = slice_get_read cells (length cells) c.rank-at.result c.index-then-index-number.result.now refl lt c.index-then-index-number.ensures in
    let is : c.index-then-index-number.result.now.number ≡ n = same_number cells c.rank-at.result c.index.result.now c.index-then-index-number.result.now n (slice_get_read cells (length cells) c.rank-at.result c.index.result.now refl lt c.index.ensures) at c.if-index-number.true in
    Edits.joined_bits cells n c.rank-at.result c.index-then-index-number.result.now c.args.block.now c.unite.new.self c.minus-more.result c.args.self.now.ascending e at is c.minus-more.ensures c.unite.ensures.bits

pub returns-then-index-number-clause-count : goal.returns-then-index-number-clause-count
returns-then-index-number-clause-count c =
    let cells = c.args.self.now.cells.items in
    let n = c.args.number in
    let e : c.rank-at.result ≡ rank_of cells n = c.rank-at.ensures.rank ∙ ap (λ xs. rank_of xs n) c.deref.ensures.value in
    let lt : c.rank-at.result < length cells = omega (arith, c.len.ensures, c.if-at-len.true) in
    let at = slice_get_read cells (length cells) c.rank-at.result c.index-then-index-number.result.now refl lt c.index-then-index-number.ensures in
    let is : c.index-then-index-number.result.now.number ≡ n = same_number cells c.rank-at.result c.index.result.now c.index-then-index-number.result.now n (slice_get_read cells (length cells) c.rank-at.result c.index.result.now refl lt c.index.ensures) at c.if-index-number.true in
    Edits.joined_size cells n c.rank-at.result c.index-then-index-number.result.now c.args.block.now c.unite.new.self c.minus-more.result c.args.self.now.ascending e at is c.minus-more.ensures c.unite.ensures.bits ∙ ap (λ x. row_size cells + x) (sym c.count.ensures)

pub returns-then-index-number-clause-some : goal.returns-then-index-number-clause-some
returns-then-index-number-clause-some c =
    let cells = c.args.self.now.cells.items in
    let n = c.args.number in
    let e : c.rank-at.result ≡ rank_of cells n = c.rank-at.ensures.rank ∙ ap (λ xs. rank_of xs n) c.deref.ensures.value in
    let lt : c.rank-at.result < length cells = omega (arith, c.len.ensures, c.if-at-len.true) in
    let at = slice_get_read cells (length cells) c.rank-at.result c.index-then-index-number.result.now refl lt c.index-then-index-number.ensures in
    let is : c.index-then-index-number.result.now.number ≡ n = same_number cells c.rank-at.result c.index.result.now c.index-then-index-number.result.now n (slice_get_read cells (length cells) c.rank-at.result c.index.result.now refl lt c.index.ensures) at c.if-index-number.true in
    λ h. Edits.joined_some cells n c.rank-at.result c.index-then-index-number.result.now c.args.block.now c.unite.new.self c.minus-more.result c.args.self.now.ascending e at is c.minus-more.ensures c.unite.ensures.bits (omega (arith, c.count.ensures, h))

pub returns-then-index-number-clause-none : goal.returns-then-index-number-clause-none
returns-then-index-number-clause-none c =
    let cells = c.args.self.now.cells.items in
    let n = c.args.number in
    let e : c.rank-at.result ≡ rank_of cells n = c.rank-at.ensures.rank ∙ ap (λ xs. rank_of xs n) c.deref.ensures.value in
    let lt : c.rank-at.result < length cells = omega (arith, c.len.ensures, c.if-at-len.true) in
    let at = slice_get_read cells (length cells) c.rank-at.result c.index-then-index-number.result.now refl lt c.index-then-index-number.ensures in
    let is : c.index-then-index-number.result.now.number ≡ n = same_number cells c.rank-at.result c.index.result.now c.index-then-index-number.result.now n (slice_get_read cells (length cells) c.rank-at.result c.index.result.now refl lt c.index.ensures) at c.if-index-number.true in
    λ h. Edits.joined_none cells n c.rank-at.result c.index-then-index-number.result.now c.args.block.now c.unite.new.self c.minus-more.result c.args.self.now.ascending e at is c.minus-more.ensures c.unite.ensures.bits (sym c.count.ensures ∙ h)

pub returns-then-index-number-clause-bound : goal.returns-then-index-number-clause-bound
returns-then-index-number-clause-bound c = omega (arith, size-le c.minus-more.result, c.count.ensures)

pub invariant_of-self-2 : goal.invariant_of-self-2
invariant_of-self-2 c =
    let cells = c.args.self.now.cells.items in
    let n = c.args.number in
    let e : c.rank-at.result ≡ rank_of cells n = c.rank-at.ensures.rank ∙ ap (λ xs. rank_of xs n) c.deref.ensures.value in
    let absent : (d : Cell) → slice_get cells c.rank-at.result ≡ Some d → d.number ≢ n =
    elim c.else-at-len.branch [
      | else-at-len-via-then-at-len+else-index-number w ↦ Edits.not_there cells n c.rank-at.result w.index.result.now (slice_get_read cells (length cells) c.rank-at.result w.index.result.now refl (omega (arith, c.len.ensures, w.if-at-len.true)) w.index.ensures) w.if-index-number.false
      | else-at-len-via-else-at-len w ↦ Edits.past_end cells n c.rank-at.result (omega (arith, c.len.ensures, w.if-at-len.false))
    ] in
    record { ascending = Edits.either_ascending cells n c.rank-at.result c.args.block.now c.args.self.now.ascending e c.requires absent _ _ c.insert.ensures.items }

pub returns-clause-ok : goal.returns-clause-ok
returns-clause-ok c =
    let cells = c.args.self.now.cells.items in
    let n = c.args.number in
    let e : c.rank-at.result ≡ rank_of cells n = c.rank-at.ensures.rank ∙ ap (λ xs. rank_of xs n) c.deref.ensures.value in
    let absent : (d : Cell) → slice_get cells c.rank-at.result ≡ Some d → d.number ≢ n =
    elim c.else-at-len.branch [
      | else-at-len-via-then-at-len+else-index-number w ↦ Edits.not_there cells n c.rank-at.result w.index.result.now (slice_get_read cells (length cells) c.rank-at.result w.index.result.now refl (omega (arith, c.len.ensures, w.if-at-len.true)) w.index.ensures) w.if-index-number.false
      | else-at-len-via-else-at-len w ↦ Edits.past_end cells n c.rank-at.result (omega (arith, c.len.ensures, w.if-at-len.false))
    ] in
    rw c.in_ok-insert.ensures.items (Edits.put_bits cells n c.rank-at.result c.args.block.now c.args.self.now.ascending e c.requires absent)

pub returns-clause-count : goal.returns-clause-count
returns-clause-count c =
    let cells = c.args.self.now.cells.items in
    let n = c.args.number in
    let e : c.rank-at.result ≡ rank_of cells n = c.rank-at.ensures.rank ∙ ap (λ xs. rank_of xs n) c.deref.ensures.value in
    let absent : (d : Cell) → slice_get cells c.rank-at.result ≡ Some d → d.number ≢ n =
    elim c.else-at-len.branch [
      | else-at-len-via-then-at-len+else-index-number w ↦ Edits.not_there cells n c.rank-at.result w.index.result.now (slice_get_read cells (length cells) c.rank-at.result w.index.result.now refl (omega (arith, c.len.ensures, w.if-at-len.true)) w.index.ensures) w.if-index-number.false
      | else-at-len-via-else-at-len w ↦ Edits.past_end cells n c.rank-at.result (omega (arith, c.len.ensures, w.if-at-len.false))
    ] in
    rw c.in_ok-insert.ensures.items (Edits.put_size cells n c.rank-at.result c.args.block.now c.args.self.now.ascending e c.requires absent ∙ ap (λ x. row_size cells + x) (sym c.count-2.ensures))

pub returns-clause-some : goal.returns-clause-some
returns-clause-some c =
    let cells = c.args.self.now.cells.items in
    let n = c.args.number in
    let e : c.rank-at.result ≡ rank_of cells n = c.rank-at.ensures.rank ∙ ap (λ xs. rank_of xs n) c.deref.ensures.value in
    let absent : (d : Cell) → slice_get cells c.rank-at.result ≡ Some d → d.number ≢ n =
    elim c.else-at-len.branch [
      | else-at-len-via-then-at-len+else-index-number w ↦ Edits.not_there cells n c.rank-at.result w.index.result.now (slice_get_read cells (length cells) c.rank-at.result w.index.result.now refl (omega (arith, c.len.ensures, w.if-at-len.true)) w.index.ensures) w.if-index-number.false
      | else-at-len-via-else-at-len w ↦ Edits.past_end cells n c.rank-at.result (omega (arith, c.len.ensures, w.if-at-len.false))
    ] in
    λ h. Edits.put_some cells n c.rank-at.result c.args.block.now c.args.self.now.ascending e c.requires absent (omega (arith, c.count-2.ensures, h))

pub returns-clause-none : goal.returns-clause-none
returns-clause-none c =
    let cells = c.args.self.now.cells.items in
    let n = c.args.number in
    let e : c.rank-at.result ≡ rank_of cells n = c.rank-at.ensures.rank ∙ ap (λ xs. rank_of xs n) c.deref.ensures.value in
    let absent : (d : Cell) → slice_get cells c.rank-at.result ≡ Some d → d.number ≢ n =
    elim c.else-at-len.branch [
      | else-at-len-via-then-at-len+else-index-number w ↦ Edits.not_there cells n c.rank-at.result w.index.result.now (slice_get_read cells (length cells) c.rank-at.result w.index.result.now refl (omega (arith, c.len.ensures, w.if-at-len.true)) w.index.ensures) w.if-index-number.false
      | else-at-len-via-else-at-len w ↦ Edits.past_end cells n c.rank-at.result (omega (arith, c.len.ensures, w.if-at-len.false))
    ] in
    λ h. Edits.put_none cells n c.rank-at.result c.args.block.now c.args.self.now.ascending e c.requires absent (sym c.count-2.ensures ∙ h)

pub returns-clause-bound : goal.returns-clause-bound
returns-clause-bound c = omega (arith, size-le c.args.block.now, c.count-2.ensures)
