use Rattle.std.proofs.Common.{sym}
use Rattle.cc_across.proofs.Callees.{callee_some, callee_none}
use Rattle.cc_across.proofs.Lists.{ok_then}
use Rattle.cc_across.proofs.sites.push_site.Goals as goal

pub returns-in-Some : goal.returns-in-Some
returns-in-Some c = ok_then c.push_callees.result _ _ (callee_some c.args.facts.now c.args.site c.in-Some.designator c.args.pairs.now.items c.push_callees.new.pairs.items (sym c.in-Some.ensures)) c.push_callees.ensures

pub returns-in-None : goal.returns-in-None
returns-in-None c = callee_none c.args.facts.now c.args.site c.args.pairs.now.items (sym c.in-None.ensures)
