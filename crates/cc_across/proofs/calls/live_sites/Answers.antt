use Rattle.std.proofs.Common.{◌≡◌, sym, subst, arith}
use Rattle.cc_across.specs.Reaching.{IsSiteBelow}
use Rattle.cc_across.proofs.Living.{sites_on, sorted_ascends}
use Rattle.cc_across.proofs.calls.live_sites.Goals as goal

pub loop-s-preserved : goal.loop-s-preserved
loop-s-preserved c = rw c.in_ok-push_if.ensures (sites_on c.args.arena.now c.args.graph.now c.args.owners.now c.args.live.now c.loop-s.s c.loop-s.sites.items c.is_live_site-is_live.result c.is_live_site-is_live.ensures c.loop-s.invariant)

pub returns-clause-ascends : goal.returns-clause-ascends
returns-clause-ascends c = sorted_ascends c.arrange.new.rows.items c.arrange.ensures.ascending

pub returns-clause-exact : goal.returns-clause-exact
returns-clause-exact c =
    let same : c.loop-s.s ≡ c.args.nodes = omega arith in
    λ s. (
      λ is. subst (λ m. IsSiteBelow c.args.arena.now c.args.graph.now c.args.owners.now c.args.live.now m s) same ((c.loop-s.invariant s).0 ((c.arrange.ensures.same s).0 is)),
      λ w. (c.arrange.ensures.same s).1 ((c.loop-s.invariant s).1 (subst (λ m. IsSiteBelow c.args.arena.now c.args.graph.now c.args.owners.now c.args.live.now m s) (sym same) w)),
    )
