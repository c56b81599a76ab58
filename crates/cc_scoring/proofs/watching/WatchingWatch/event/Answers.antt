use Rattle.cc_scoring.proofs.Watched.{event_more}
use Rattle.cc_scoring.proofs.watching.WatchingWatch.event.Goals as goal

pub returns-clause-told : goal.returns-clause-told
returns-clause-told g c = event_more g.S.Subject.named c.args.self.now.recorder c.take.new.self c.args.event.now c.take.result c.take.ensures.told
