use Rattle.std.proofs.Common.{◌≡◌, sym, subst, arith}
use Rattle.cc_across.specs.Calling.{IsCall}
use Rattle.cc_across.proofs.Callees.{calls_none, calls_on}
use Rattle.cc_across.proofs.sites.all_calls.Goals as goal

pub loop-n-init : goal.loop-n-init
loop-n-init c = rw c.new-pairs.ensures.items (calls_none c.args.facts.now c.args.graph.now)

pub loop-n-preserved : goal.loop-n-preserved
loop-n-preserved c = calls_on c.args.facts.now c.args.graph.now c.loop-n.n c.loop-n.pairs.items c.push_call.new.pairs.items c.loop-n.invariant c.in_ok-push_call.ensures

pub returns : goal.returns
returns c =
    let same : c.loop-n.n ≡ c.args.nodes = omega arith in
    λ x. (
      λ is. subst (λ m. IsCall c.args.graph.now c.args.facts.now m x) same ((c.loop-n.invariant x).0 is),
      λ w. (c.loop-n.invariant x).1 (subst (λ m. IsCall c.args.graph.now c.args.facts.now m x) (sym same) w),
    )
