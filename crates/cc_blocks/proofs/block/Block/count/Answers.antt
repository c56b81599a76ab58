use Rattle.std.proofs.Common.{◌≡◌, ◌≤◌, ◌∙◌, ◌*◌, ◌+◌, sym, ap, arith, refl}
use Rattle.std.proofs.lemmas.List.{get_or_read}
use Rattle.std.specs.Int.RustNames.{count_ones}
use Rattle.cc_blocks.specs.Bits.{size, ones_below}
use Rattle.cc_blocks.proofs.Words.{ones_below-lane, ones_below-le}
use Rattle.cc_blocks.proofs.block.Block.count.Goals as goal

pub overflow_add-count : goal.overflow_add-count
overflow_add-count c =
    let s = c.args.self.now in
    let at = get_or_read s.lanes _ _ (omega (arith, s.eight)) c.index.ensures 0 in
    let lane = ones_below-lane s.lanes c.loop-k.k (s.fits c.loop-k.k) in
    let one = ap count_ones at in
    record { fits = omega (arith, ones_below-le s.lanes (64 * (c.loop-k.k + 1))) }

pub loop-k-init : goal.loop-k-init
unfolding ones_below
loop-k-init c = refl

pub loop-k-preserved : goal.loop-k-preserved
loop-k-preserved c =
    let s = c.args.self.now in
    let at = get_or_read s.lanes _ _ (omega (arith, s.eight)) c.index.ensures 0 in
    let lane = ones_below-lane s.lanes c.loop-k.k (s.fits c.loop-k.k) in
    let one = ap count_ones at in
    omega arith

pub returns : goal.returns
unfolding size
returns c =
    let end : c.loop-k.k ≡ 8 = omega arith in
    c.loop-k.invariant ∙ ap (λ n. ones_below c.args.self.now.lanes (64 * n)) end
