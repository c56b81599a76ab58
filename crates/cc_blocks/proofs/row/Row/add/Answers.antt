use Rattle.std.proofs.Common.{rules, ◌≡◌, ◌≢◌, ℕ, ◌+◌, ◌-◌, ◌*◌, ◌/◌, ◌%◌, ◌<◌, ◌≤◌, max, length, Bool, true, false, List, [], ◌∷◌, ◌++◌, slice_index_or, slice_set, refl, sym, ap, ◌∙◌, subst, arith, length-set}
use Rattle.std.specs.Prelude.{slice_get}
use Rattle.std.proofs.lemmas.Option.{slice_get_read, slice_get-get_or}
use Rattle.cc_blocks.specs.declared.row.Row.{Row}
use Rattle.cc_blocks.specs.Cells.{row_bit, row_size, block_bit}
use Rattle.cc_blocks.specs.Pairs.{pair_bit, pair_count}
use Rattle.cc_blocks.proofs.Ranks
use Rattle.cc_blocks.proofs.Tables
use Rattle.cc_blocks.proofs.row.Row.add.Goals as goal
use Rattle.std.proofs.Common.{inl, inr}
use Rattle.std.proofs.lemmas.Bool.{cases_eq}
use Rattle.cc_blocks.proofs.Words.{nonzero_test}

pub returns-clause-at : goal.returns-clause-at
returns-clause-at c =
    let b = Ranks.block_bit-at (c.args.target / 512) c.set.new.self c.args.target refl ∙ c.set.ensures.at in
    omega (arith, c.in_ok-add_block.ensures.ok c.args.target, b, Ranks.row_bit-lt c.args.self.now.cells.items c.args.target)

pub returns-clause-others : goal.returns-clause-others
returns-clause-others c = λ t ne.
    let z = Tables.one_bit c.set.new.self c.args.target t c.set.ensures.at (λ i other. c.set.ensures.others i other ∙ c.new-block.ensures i) ne in
    omega (arith, c.in_ok-add_block.ensures.ok t, z)

pub returns-clause-new : goal.returns-clause-new
returns-clause-new c =
    let old = c.args.self.now.cells.items in
    let b = Ranks.block_bit-at (c.args.target / 512) c.set.new.self c.args.target refl ∙ c.set.ensures.at in
    let test = nonzero_test c.in_ok-add_block.field-0 in (
      λ new. elim (cases_eq (row_bit old c.args.target) 0) [
        | inl e ↦ e
        | inr ne ↦ absurd (
            let some = c.in_ok-add_block.ensures.some (omega (arith, test.0 new)) in
            elim (cases_eq some.0 c.args.target) [
              | inl same ↦ ne (ap (row_bit old) (sym same) ∙ some.2)
              | inr other ↦ (let z = Tables.one_bit c.set.new.self c.args.target some.0 c.set.ensures.at (λ i o. c.set.ensures.others i o ∙ c.new-block.ensures i) other in let s = some.1 in omega arith)
            ])
      ],
      λ none. test.1 (λ e. (let le = c.in_ok-add_block.ensures.none e c.args.target in omega arith)),
    )
