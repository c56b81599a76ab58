use Rattle.std.proofs.Common.{◌≡◌, ℕ, ◌+◌, ◌-◌, ◌<◌, length, drop, refl, ap, ◌∙◌, arith}
use Rattle.std.specs.Prelude.{slice_get}
use Rattle.cc_uses.specs.Peeling.{peeled, with_peeled}
use Rattle.cc_uses.proofs.Descending.{peeled_on}
use Rattle.cc_uses.proofs.peel.peel_all.Goals as goal

pub loop-n-preserved : goal.loop-n-preserved
loop-n-preserved c =
    let nodes = c.args.nodes.now in
    let all = c.loop-n.all in
    let n : ℕ = c.loop-n.n - 1 in
    let next : c.loop-n.n ≡ n + 1 = omega arith in
    let made : drop (n + 1) all ≡ peeled (drop (n + 1) nodes) (n + 1) = rw next at c.loop-n.invariant.made in
    let lt : n < length all = omega arith in
    let on = peeled_on nodes all n (slice_get nodes n) refl lt c.loop-n.invariant.long made in
    let is = c.put_peeled.ensures ∙ ap (λ x. with_peeled n x all) c.placed_at.ensures in
    record { made = ap (drop n) is ∙ on.0; long = ap length is ∙ on.1 }
