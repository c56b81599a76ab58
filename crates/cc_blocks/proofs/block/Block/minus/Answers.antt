use Rattle.std.proofs.Common.{ℕ, ◌≡◌, ◌∙◌, sym, ap, arith, ◌+◌, ◌-◌, ◌%◌}
use Rattle.std.proofs.lemmas.Nat.{xor_lt}
use Rattle.std.specs.Int.Bits.{and_lt}
use Rattle.std.specs.Prelude.{bit_and, bit_xor}
use Rattle.cc_blocks.proofs.Words.{length-zip2, zip2-fits, word_bit-minus}
use Rattle.cc_blocks.proofs.block.Block.minus.Goals as goal

pub invariant_of-result : goal.invariant_of-result
invariant_of-result c =
    let s = c.args.self.now in
    let f = c.args.from.now in
    let e = s.eight ∙ sym f.eight in
    let both = length-zip2 bit_and s.lanes f.lanes e in
    record {
      eight = length-zip2 bit_xor s.lanes _ (sym both) ∙ s.eight;
      fits = zip2-fits bit_xor (xor_lt 64) (omega arith) s.lanes _ (sym both) s.fits (zip2-fits bit_and (and_lt 64) (omega arith) s.lanes f.lanes e s.fits f.fits);
    }

pub returns : goal.returns
returns c = λ i. word_bit-minus c.args.self.now.lanes c.args.from.now.lanes i (c.args.self.now.eight ∙ sym c.args.from.now.eight)
