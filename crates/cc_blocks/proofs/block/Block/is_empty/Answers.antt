use Rattle.std.proofs.Common.{ℕ, ◌≡◌, arith, eqb-true, eq-eqb}
use Rattle.cc_blocks.proofs.Words.{AllZero-from_fold, fold-AllZero, AllZero-from_bits, word_bit-AllZero}
use Rattle.cc_blocks.proofs.block.Block.is_empty.Goals as goal

pub returns : goal.returns
returns c =
    let lanes = c.args.self.now.lanes in (
      λ t i. word_bit-AllZero lanes i (AllZero-from_fold lanes (eqb-true _ 0 t)),
      λ h. eq-eqb _ 0 (fold-AllZero lanes (AllZero-from_bits lanes c.args.self.now.fits h)),
    )
