use Rattle.std.proofs.Common.{rules, ◌≡◌, ◌≢◌, ℕ, ◌+◌, ◌-◌, ◌*◌, ◌/◌, ◌%◌, ◌<◌, ◌≤◌, max, length, Bool, true, false, List, [], ◌∷◌, ◌++◌, slice_index_or, slice_set, refl, sym, ap, ◌∙◌, subst, arith, length-set}
use Rattle.std.specs.Prelude.{slice_get}
use Rattle.std.proofs.lemmas.Option.{slice_get_read, slice_get-get_or}
use Rattle.cc_blocks.specs.declared.row.Row.{Row}
use Rattle.cc_blocks.specs.Cells.{row_bit, row_size, block_bit}
use Rattle.cc_blocks.specs.Pairs.{pair_bit, pair_count}
use Rattle.cc_blocks.proofs.Ranks
use Rattle.cc_blocks.proofs.Tables
use Rattle.cc_blocks.proofs.table.Rows.add.Goals as goal
use Rattle.std.proofs.Common.{inl, inr}
use Rattle.std.proofs.lemmas.Bool.{cases_eq}

pub returns-clause-at : goal.returns-clause-at
returns-clause-at c = Tables.pair_bit-set_at c.args.self.now.rows.items c.args.holder c.add.new.self c.args.target c.requires ∙ c.in_ok-new.ensures.at

pub returns-clause-others : goal.returns-clause-others
returns-clause-others c =
    let rows = c.args.self.now.rows.items in
    λ h t ne. elim (cases_eq h c.args.holder) [
      | inl same ↦ rw same (Tables.pair_bit-set_at rows c.args.holder c.add.new.self t c.requires ∙ c.in_ok-new.ensures.others t (ne same) ∙ Tables.row_is rows c.args.holder t c.index_mut.result.now c.requires c.index_mut.ensures.value)
      | inr other ↦ Tables.pair_bit-set_other rows c.args.holder h c.add.new.self t other
    ]

pub returns-clause-new : goal.returns-clause-new
returns-clause-new c =
    let is = Tables.row_is c.args.self.now.rows.items c.args.holder c.args.target c.index_mut.result.now c.requires c.index_mut.ensures.value in
    (λ new. sym is ∙ c.in_ok-new.ensures.new.0 new, λ none. c.in_ok-new.ensures.new.1 (is ∙ none))
