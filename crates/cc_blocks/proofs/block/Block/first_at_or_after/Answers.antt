use Rattle.std.proofs.Common.{◌≡◌, ◌≤◌, ◌<◌, ◌∙◌, ◌/◌, ◌^◌, ◌%◌, ℕ, sym, ap, arith, inl, inr, slice_index_or}
use Rattle.std.proofs.lemmas.List.{get_or_read}
use Rattle.std.proofs.lemmas.Bool.{cases_lt}
use Rattle.cc_blocks.proofs.Words.{none_in_word, first_in_word, word_bit-nil, shr_lt}
use Rattle.cc_blocks.proofs.block.Block.first_at_or_after.Goals as goal

pub loop-from-preserved : goal.loop-from-preserved
loop-from-preserved c =
    let s = c.args.self.now in
    let from = c.loop-from.from in
    let at = get_or_read s.lanes _ _ (omega (arith, s.eight)) c.index.ensures 0 in
    let none : slice_index_or s.lanes (from / 64) 0 / 2 ^ (from % 64) ≡ 0 = rw at at c.if-left-ne0.false in
    record {
      on = omega arith;
      none = λ k le lt. elim (cases_lt k from) [
        | inl before ↦ c.loop-from.invariant.none k le before
        | inr after ↦ none_in_word s.lanes from k none after lt
      ];
    }

pub returns-clause-none : goal.returns-clause-none
returns-clause-none c = λ k le. elim (cases_lt k c.loop-from.from) [
  | inl before ↦ c.loop-from.invariant.none k le before
  | inr after ↦ word_bit-nil c.args.self.now.lanes k (omega (arith, c.args.self.now.eight))
]

pub returns-then-left-ne0-clause-some : goal.returns-then-left-ne0-clause-some
returns-then-left-ne0-clause-some c =
    let s = c.args.self.now in
    let from = c.loop-from.from in
    let at = get_or_read s.lanes _ _ (omega (arith, s.eight)) c.index.ensures 0 in
    let first = first_in_word s.lanes from c.loop-from-test.true (s.fits (from / 64)) (rw at at c.if-left-ne0.true) (shr_lt _ _ (s.fits (from / 64))) in
    let on = c.loop-from.invariant.on in
    rw at (
      omega arith,
      first.0,
      first.1,
      λ k le lt. elim (cases_lt k from) [
        | inl before ↦ c.loop-from.invariant.none k le before
        | inr after ↦ first.2 k after lt
      ],
    )
