use Rattle.std.proofs.Common.{◌≡◌, ◌<◌, ℕ, ◌+◌, ◌-◌, ◌++◌, ◌∷◌, [], sym, ◌∙◌, arith, take, slice_index_or, subst}
use Rattle.std.proofs.lemmas.List.{take_more, take_all}
use Rattle.std.proofs.lemmas.List.Elements.{Contains-get_or}
use Rattle.cc_blocks.specs.Bits.{bit}
use Rattle.cc_flows.specs.Sweeping.{Passes}
use Rattle.cc_flows.proofs.Passing.{passes_on, passes_none}
use Rattle.cc_flows.proofs.sweeping.pass_all.Goals as goal

pub loop-point-init : goal.loop-point-init
loop-point-init c = passes_none _ _ _

pub pass-requires-clause-point : goal.pass-requires-clause-point
pass-requires-clause-point c =
    let n = c.loop-point.invariant.same_length in
    omega (arith, c.requires.points _ (Contains-get_or c.args.points.now c.loop-point.point-index 0 c.loop-point-test.true))

pub pass-requires-clause-dirty : goal.pass-requires-clause-dirty
pass-requires-clause-dirty c = c.loop-point.invariant.same_dirty ∙ c.requires.dirty ∙ sym c.loop-point.invariant.same_length

pub loop-point-preserved : goal.loop-point-preserved
loop-point-preserved c =
    let i = c.loop-point.point-index in
    let points = c.args.points.now in
    let more : take (i + 1) points ≡ take i points ++ slice_index_or points i 0 ∷ [] = take_more points i 0 c.loop-point-test.true in
    rw more (passes_on _ _ _ _ _ _ _ _ _ c.loop-point.invariant c.pass.ensures)
