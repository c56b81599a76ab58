use Rattle.std.proofs.Common.{sym, ◌∙◌}
use Rattle.cc_across.proofs.Callees.{there_is, there_not, call_some, call_none}
use Rattle.cc_across.proofs.Lists.{ok_then}
use Rattle.cc_across.proofs.sites.push_call.Goals as goal

pub returns-then-is_evaluated : goal.returns-then-is_evaluated
returns-then-is_evaluated c = ok_then c.push_site.result _ _ (call_some c.args.facts.now c.args.graph.now c.args.n c.args.pairs.now.items c.push_site.new.pairs.items (there_is c.args.facts.now _ (sym c.is_evaluated.ensures ∙ c.if-is_evaluated.true))) c.push_site.ensures

pub returns-else-is_evaluated : goal.returns-else-is_evaluated
returns-else-is_evaluated c = call_none c.args.facts.now c.args.graph.now c.args.n c.args.pairs.now.items (there_not c.args.facts.now _ (sym c.is_evaluated.ensures ∙ c.if-is_evaluated.false))
