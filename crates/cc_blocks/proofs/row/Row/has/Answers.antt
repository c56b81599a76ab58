use Rattle.std.proofs.Common.{rules, ◌≡◌, ◌≢◌, ℕ, ◌+◌, ◌-◌, ◌*◌, ◌/◌, ◌%◌, ◌<◌, ◌≤◌, max, length, take, drop, Bool, true, false, List, [], ◌∷◌, ◌++◌, slice_index_or, slice_set, refl, sym, ap, ◌∙◌, subst, arith}
use Rattle.std.specs.Prelude.{slice_get}
use Rattle.std.proofs.lemmas.Option.{slice_get_read, slice_get-get_or}
use Rattle.cc_blocks.specs.Bits.{bit, size}
use Rattle.cc_blocks.proofs.Sizes.{size-le, bit-lt}
use Rattle.cc_blocks.specs.declared.cell.Cell.{Cell}
use Rattle.cc_blocks.specs.Cells.{block_bit, row_bit, row_size, AreAscending, rank_of}
use Rattle.cc_blocks.proofs.Ranks
use Rattle.cc_blocks.proofs.Edits
use Rattle.cc_blocks.proofs.row.Row.has.Goals as goal

pub returns : goal.returns
returns c =
    let is = c.block_at.ensures c.args.target refl ∙ ap (λ xs. row_bit xs c.args.target) c.deref.ensures.value in
    (λ t. sym is ∙ c.has.ensures.0 t, λ h. c.has.ensures.1 (is ∙ h))
