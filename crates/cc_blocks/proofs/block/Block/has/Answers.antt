use Rattle.std.proofs.Common.{◌≡◌, ◌∙◌, sym, arith, eqb-true, eq-eqb}
use Rattle.std.proofs.lemmas.List.{get_or_read}
use Rattle.cc_blocks.proofs.Words.{word_bit-test}
use Rattle.cc_blocks.proofs.block.Block.has.Goals as goal

pub returns : goal.returns
returns c =
    let s = c.args.self.now in
    let at = get_or_read s.lanes _ _ (omega (arith, s.eight)) c.index.ensures 0 in
    let is = word_bit-test s.lanes c.args.i _ at in
    (λ t. is ∙ eqb-true _ 1 t, λ h. eq-eqb _ 1 (sym is ∙ h))
