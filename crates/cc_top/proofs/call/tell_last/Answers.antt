use Rattle.cc_top.proofs.EndFacts.{prefix_of_put}
use Rattle.cc_top.proofs.call.tell_last.Goals as goal

pub returns : goal.returns
returns g c = let e = c.put.ensures in prefix_of_put (g.E.Sink.held c.args.err.now) (g.E.Sink.held c.put.new.self) c.args.line.now c.put.result e.ok e.prefix e.memory
