use Rattle.std.proofs.Common.{refl}
use Rattle.cc_record.proofs.Moves.{left_does}
use Rattle.cc_record.proofs.recorder.Recorder.leave.Goals as goal

pub returns-clause-told : goal.returns-clause-told
returns-clause-told c =
    left_does c.args.self.now _ c.args.ret c.args.act c.left-left.result (record { program = refl; asked = refl }) (λ q. refl) c.left-left.ensures c.finish.ensures c.end.ensures c.in_ok-note.ensures.added
