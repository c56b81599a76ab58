use Rattle.std.proofs.Common.{rules, ◌≡◌, ◌≢◌, ℕ, ◌+◌, ◌-◌, ◌*◌, ◌/◌, ◌%◌, ◌<◌, ◌≤◌, max, length, take, drop, Bool, true, false, List, [], ◌∷◌, ◌++◌, slice_index_or, slice_set, refl, sym, ap, ◌∙◌, subst, arith}
use Rattle.std.specs.Prelude.{slice_get}
use Rattle.std.proofs.lemmas.Option.{slice_get_read, slice_get-get_or}
use Rattle.cc_blocks.specs.Bits.{bit, size}
use Rattle.cc_blocks.proofs.Sizes.{size-le, bit-lt}
use Rattle.cc_blocks.specs.declared.cell.Cell.{Cell}
use Rattle.cc_blocks.specs.Cells.{block_bit, row_bit, row_size, AreAscending, rank_of}
use Rattle.cc_blocks.proofs.Ranks
use Rattle.cc_blocks.proofs.Edits
use Rattle.cc_blocks.proofs.row.block_at.Goals as goal
use Rattle.cc_blocks.proofs.row.block_at.Goals.{then-at-cells+else-cell-number, else-at-cells}
use Rattle.std.proofs.Common.{Some}

pub returns-then-cell-number : goal.returns-then-cell-number
returns-then-cell-number c =
    let cells = c.args.cells.now in
    let at = slice_get_read cells (length cells) c.rank-at.result c.index-cells-at.result refl c.if-at-cells.true c.index-cells-at.is in
    λ t same. sym (Ranks.row_bit-found 0 cells c.args.number t _ c.requires (ap (slice_get cells) (sym c.rank-at.ensures.rank) ∙ at) c.if-cell-number.true same)

pub returns : goal.returns
returns c =
    let cells = c.args.cells.now in
    let absent : (d : Cell) → slice_get cells c.rank-at.result ≡ Some d → d.number ≢ c.args.number =
    elim c.if-at-cells.branch [
      | then-at-cells+else-cell-number w ↦ Edits.not_there cells c.args.number c.rank-at.result _ (slice_get-get_or cells c.rank-at.result w.index-cells-at.result w.if-at-cells.true) (rw w.index-cells-at.is at w.if-cell-number.false)
      | else-at-cells w ↦ Edits.past_end cells c.args.number c.rank-at.result w.if-at-cells.false
    ] in
    λ t same. c.new.ensures (t % 512) ∙ sym (Ranks.row_bit-absent 0 cells c.args.number t c.requires same (λ d at. absent d (ap (slice_get cells) c.rank-at.ensures.rank ∙ at)))
