use Rattle.cc_blocks.proofs.sweeping.pass_all.Goals as goal
use Rattle.std.proofs.Common.{◌≡◌, ℕ, ◌+◌, ◌++◌, ◌∷◌, [], arith, take, slice_index_or}
use Rattle.std.proofs.lemmas.List.{take_more}
use Rattle.std.proofs.lemmas.List.Elements.{Contains-get_or}
use Rattle.cc_blocks.proofs.Passing.{passes_on, passes_none}

pub loop-point-init : goal.loop-point-init
loop-point-init c = passes_none _ _ _

pub pass-requires : goal.pass-requires
pass-requires c =
    let n = c.loop-point.invariant.same_length in
    omega (arith, c.requires _ (Contains-get_or c.args.points.now c.loop-point.point-index 0 c.loop-point-test.true))

pub loop-point-preserved : goal.loop-point-preserved
loop-point-preserved c =
    let i = c.loop-point.point-index in
    let points = c.args.points.now in
    let more : take (i + 1) points ≡ take i points ++ slice_index_or points i 0 ∷ [] = take_more points i 0 c.loop-point-test.true in
    rw more (passes_on _ _ _ _ _ _ _ _ _ c.loop-point.invariant c.in_ok-pass.ensures)
