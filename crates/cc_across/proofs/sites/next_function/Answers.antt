use Rattle.std.proofs.Common.{sym}
use Rattle.cc_across.proofs.Callees.{next_is}
use Rattle.cc_across.proofs.sites.next_function.Goals as goal

pub returns-in-Some : goal.returns-in-Some
returns-in-Some c = next_is c.args.facts.now c.args.o c.args.from c.in-Some.start c.next_value.result c.as_function.result (sym c.in-Some.ensures) c.next_value.ensures.inside c.next_value.ensures.outside c.as_function.ensures.is c.as_function.ensures.small
