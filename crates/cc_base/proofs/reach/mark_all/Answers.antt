use Rattle.std.proofs.Common.{◌≡◌, ◌+◌, ◌++◌, ◌∷◌, [], take, slice_index_or}
use Rattle.std.proofs.lemmas.List.{take_more}
use Rattle.cc_base.proofs.Marks.{marks_on}
use Rattle.cc_base.proofs.reach.mark_all.Goals as goal

pub loop-point-preserved : goal.loop-point-preserved
loop-point-preserved c =
    let i = c.loop-point.point-index in
    let row = c.args.row.now in
    let more : take (i + 1) row ≡ take i row ++ slice_index_or row i 0 ∷ [] = take_more row i 0 c.loop-point-test.true in
    rw more (marks_on _ _ _ _ _ _ _ _ c.loop-point.invariant c.in_ok-mark.ensures)
