use Rattle.cc_record.proofs.Moves.{own_told, own_still}
use Rattle.cc_record.proofs.recorder.RecorderWatch.event.Goals as goal

pub returns-clause-told : goal.returns-clause-told
returns-clause-told c = own_told c.take.result c.args.self.now c.take.new.self c.args.event.now c.take.ensures.told

pub returns-clause-err : goal.returns-clause-err
returns-clause-err c = own_still c.take.result c.args.self.now c.take.new.self c.take.ensures.err
