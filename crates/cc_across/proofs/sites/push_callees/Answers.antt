use Rattle.cc_across.proofs.Callees.{between_nothing, between_on, between_all}
use Rattle.cc_across.proofs.sites.push_callees.Goals as goal

pub loop-from-init : goal.loop-from-init
loop-from-init c = between_nothing c.args.facts.now c.args.site c.args.designator c.args.pairs.now.items

pub loop-from-preserved : goal.loop-from-preserved
loop-from-preserved c = between_on c.args.facts.now c.args.site c.args.designator c.loop-from.from _ c.args.pairs.now.items c.loop-from.pairs.items _ c.in_ok-from.ensures.later c.loop-from.invariant c.in_ok-from.ensures.gains

pub returns : goal.returns
returns c = between_all c.args.facts.now c.args.site c.args.designator c.loop-from.from c.args.pairs.now.items c.loop-from.pairs.items c.loop-from-test.false c.loop-from.invariant
