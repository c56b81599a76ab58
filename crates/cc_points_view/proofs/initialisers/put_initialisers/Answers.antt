use Rattle.std.proofs.Common.{◌≡◌, ◌+◌, ◌<◌, length, refl, sym, ap, ◌∙◌, arith}
use Rattle.cc_points_view.specs.Initialisers.{with_one}
use Rattle.cc_points_view.proofs.Beginning
use Rattle.cc_points_view.proofs.initialisers.put_initialisers.Goals as goal

pub loop-n-preserved : goal.loop-n-preserved
loop-n-preserved c =
    let n = c.loop-n.n in
    let lt : n < length c.args.placed.now = omega arith in
    let is = c.in_ok-put_one.ensures ∙ ap (λ o. with_one c.args.parts.now c.args.standings.now n o c.loop-n.nodes) c.placed_at.ensures in
    Beginning.one_more c.args.parts.now c.args.standings.now c.args.placed.now n (n + 1) n c.loop-n.nodes c.put_one.new.nodes refl lt is ∙ c.loop-n.invariant
