use Rattle.cc_across.proofs.Callees.{between_some}
use Rattle.cc_across.proofs.sites.push_next.Goals as goal

pub returns-in_ok-push_defined-in-Some-clause-gains : goal.returns-in_ok-push_defined-in-Some-clause-gains
returns-in_ok-push_defined-in-Some-clause-gains c =
    let next = c.in-Some.ensures in
    rw c.from.ensures (between_some c.args.facts.now c.args.site c.args.designator c.args.from c.in-Some.g c.args.pairs.now.items c.push_defined.new.pairs.items next.0 next.1 next.2 c.in_ok-push_defined-in-Some.ensures)
