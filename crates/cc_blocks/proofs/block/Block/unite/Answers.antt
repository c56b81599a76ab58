use Rattle.std.proofs.Common.{ℕ, ◌≡◌, ◌∙◌, sym, arith}
use Rattle.std.proofs.lemmas.Nat.{or_lt}
use Rattle.std.specs.Prelude.{bit_or}
use Rattle.cc_blocks.proofs.Words.{length-zip2, zip2-fits, word_bit-or, some_new, not_new, nonzero_test}
use Rattle.cc_blocks.proofs.block.Block.unite.Goals as goal

pub invariant_of-self : goal.invariant_of-self
invariant_of-self c =
    let s = c.args.self.now in
    let f = c.args.from.now in
    record {
      eight = length-zip2 bit_or s.lanes f.lanes (s.eight ∙ sym f.eight) ∙ s.eight;
      fits = zip2-fits bit_or (or_lt 64) (omega arith) s.lanes f.lanes (s.eight ∙ sym f.eight) s.fits f.fits;
    }

pub returns-clause-bits : goal.returns-clause-bits
returns-clause-bits c = λ i. word_bit-or c.args.self.now.lanes c.args.from.now.lanes i (c.args.self.now.eight ∙ sym c.args.from.now.eight)

pub returns-clause-grew : goal.returns-clause-grew
returns-clause-grew c =
    let s = c.args.self.now in
    let f = c.args.from.now in
    let e = s.eight ∙ sym f.eight in
    let test = nonzero_test _ in
    (λ t. some_new s.lanes f.lanes e s.fits f.fits (test.0 t), λ n. test.1 (not_new s.lanes f.lanes n.0 e n.1 n.2))
