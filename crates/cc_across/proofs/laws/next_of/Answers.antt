use Rattle.cc_across.proofs.Crossed.{are_across}
use Rattle.cc_across.proofs.laws.next_of.Goals as goal

pub returns : goal.returns
returns c = λ g. are_across c.args.program.now c.args.graph.now c.args.facts.now g c.in_ok-calls.calls c.in_ok-calls.ensures _ c.in_ok-next.ensures.next
