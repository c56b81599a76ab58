use Rattle.std.proofs.Common.{rules, ◌≡◌, ◌≢◌, ℕ, ◌+◌, ◌-◌, ◌*◌, ◌/◌, ◌%◌, ◌<◌, ◌≤◌, max, length, take, drop, Bool, true, false, List, [], ◌∷◌, ◌++◌, slice_index_or, slice_set, refl, sym, ap, ◌∙◌, subst, arith}
use Rattle.std.specs.Prelude.{slice_get}
use Rattle.std.proofs.lemmas.Option.{slice_get_read, slice_get-get_or}
use Rattle.cc_blocks.specs.Bits.{bit, size}
use Rattle.cc_blocks.proofs.Sizes.{size-le, bit-lt}
use Rattle.cc_blocks.specs.declared.cell.Cell.{Cell}
use Rattle.cc_blocks.specs.Cells.{block_bit, row_bit, row_size, AreAscending, rank_of}
use Rattle.cc_blocks.proofs.Ranks
use Rattle.cc_blocks.proofs.Edits
use Rattle.cc_blocks.proofs.row.Row.give_block.Goals as goal

pub returns-then-is_empty-clause-targets : goal.returns-then-is_empty-clause-targets
returns-then-is_empty-clause-targets c =
    let cells = c.args.self.now.cells.items in
    let n = c.args.number in
    let b = c.args.block.now in
    let there : (t : ℕ) → t / 512 ≡ n → bit c.block_at.result (t % 512) ≡ row_bit cells t = λ t same. c.block_at.ensures t same ∙ ap (λ xs. row_bit xs t) c.deref.ensures.value in
    let lacks = Edits.lacking_bits cells n b c.block_at.result c.minus-more.result there c.minus-more.ensures in
    let le = Edits.lacking_none cells n b c.block_at.result c.minus-more.result there c.minus-more.ensures (c.is_empty.ensures.0 c.if-is_empty.true) in
    λ t. omega (arith, le t)

pub returns-then-is_empty-clause-fresh : goal.returns-then-is_empty-clause-fresh
returns-then-is_empty-clause-fresh c =
    let cells = c.args.self.now.cells.items in
    let n = c.args.number in
    let b = c.args.block.now in
    let there : (t : ℕ) → t / 512 ≡ n → bit c.block_at.result (t % 512) ≡ row_bit cells t = λ t same. c.block_at.ensures t same ∙ ap (λ xs. row_bit xs t) c.deref.ensures.value in
    let lacks = Edits.lacking_bits cells n b c.block_at.result c.minus-more.result there c.minus-more.ensures in
    let le = Edits.lacking_none cells n b c.block_at.result c.minus-more.result there c.minus-more.ensures (c.is_empty.ensures.0 c.if-is_empty.true) in
    λ t. omega (arith, le t)

pub returns-then-is_empty-clause-none : goal.returns-then-is_empty-clause-none
returns-then-is_empty-clause-none c =
    let cells = c.args.self.now.cells.items in
    let n = c.args.number in
    let b = c.args.block.now in
    let there : (t : ℕ) → t / 512 ≡ n → bit c.block_at.result (t % 512) ≡ row_bit cells t = λ t same. c.block_at.ensures t same ∙ ap (λ xs. row_bit xs t) c.deref.ensures.value in
    let lacks = Edits.lacking_bits cells n b c.block_at.result c.minus-more.result there c.minus-more.ensures in
    let le = Edits.lacking_none cells n b c.block_at.result c.minus-more.result there c.minus-more.ensures (c.is_empty.ensures.0 c.if-is_empty.true) in
    λ h t. le t

pub returns-clause-targets : goal.returns-clause-targets
returns-clause-targets c =
    let cells = c.args.self.now.cells.items in
    let n = c.args.number in
    let b = c.args.block.now in
    let there : (t : ℕ) → t / 512 ≡ n → bit c.block_at.result (t % 512) ≡ row_bit cells t = λ t same. c.block_at.ensures t same ∙ ap (λ xs. row_bit xs t) c.deref.ensures.value in
    let lacks = Edits.lacking_bits cells n b c.block_at.result c.minus-more.result there c.minus-more.ensures in
    let on = c.in_ok-added.ensures.ok in
    λ t. omega (arith, on t, lacks t, Ranks.row_bit-lt cells t, Ranks.block_bit-lt n b t)

pub returns-clause-fresh : goal.returns-clause-fresh
returns-clause-fresh c =
    let cells = c.args.self.now.cells.items in
    let n = c.args.number in
    let b = c.args.block.now in
    let there : (t : ℕ) → t / 512 ≡ n → bit c.block_at.result (t % 512) ≡ row_bit cells t = λ t same. c.block_at.ensures t same ∙ ap (λ xs. row_bit xs t) c.deref.ensures.value in
    let lacks = Edits.lacking_bits cells n b c.block_at.result c.minus-more.result there c.minus-more.ensures in
    let on = c.in_ok-add_block.ensures.ok in
    λ t. omega (arith, on t, lacks t)

pub returns-clause-count : goal.returns-clause-count
returns-clause-count c = c.in_ok-added.ensures.count

pub returns-clause-some : goal.returns-clause-some
returns-clause-some c =
    let cells = c.args.self.now.cells.items in
    let n = c.args.number in
    let b = c.args.block.now in
    let there : (t : ℕ) → t / 512 ≡ n → bit c.block_at.result (t % 512) ≡ row_bit cells t = λ t same. c.block_at.ensures t same ∙ ap (λ xs. row_bit xs t) c.deref.ensures.value in
    let lacks = Edits.lacking_bits cells n b c.block_at.result c.minus-more.result there c.minus-more.ensures in
    λ h. let s = c.in_ok-added.ensures.some h in (s.0, omega (arith, lacks s.0, s.1, Ranks.block_bit-lt n b s.0), s.2)

pub returns-clause-none : goal.returns-clause-none
returns-clause-none c =
    let cells = c.args.self.now.cells.items in
    let n = c.args.number in
    let b = c.args.block.now in
    let there : (t : ℕ) → t / 512 ≡ n → bit c.block_at.result (t % 512) ≡ row_bit cells t = λ t same. c.block_at.ensures t same ∙ ap (λ xs. row_bit xs t) c.deref.ensures.value in
    let lacks = Edits.lacking_bits cells n b c.block_at.result c.minus-more.result there c.minus-more.ensures in
    λ h t. omega (arith, lacks t, c.in_ok-added.ensures.none h t, Ranks.row_bit-lt cells t, Ranks.block_bit-lt n b t)

pub returns-clause-bound : goal.returns-clause-bound
returns-clause-bound c = c.in_ok-added.ensures.bound
