use Rattle.std.proofs.Common.{◌≡◌, ◌∙◌, arith, length-set}
use Rattle.cc_blocks.proofs.Words.{with_bit-fits, with_bit-same, with_bit-other}
use Rattle.cc_blocks.proofs.block.Block.set.Goals as goal

pub invariant_of-self : goal.invariant_of-self
invariant_of-self c =
    let s = c.args.self.now in
    record {
      eight = length-set s.lanes _ _ ∙ s.eight;
      fits = with_bit-fits s.lanes c.args.i s.fits;
    }

pub returns-clause-at : goal.returns-clause-at
returns-clause-at c = with_bit-same c.args.self.now.lanes c.args.i (omega (arith, c.args.self.now.eight))

pub returns-clause-others : goal.returns-clause-others
returns-clause-others c = λ k ne. with_bit-other c.args.self.now.lanes c.args.i k (omega (arith, c.args.self.now.eight)) ne
