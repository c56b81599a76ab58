use Rattle.std.proofs.Common.{refl}
use Rattle.cc_record.proofs.Moves.{entered_does}
use Rattle.cc_record.proofs.recorder.Recorder.enter.Goals as goal

pub returns-in-Ok-clause-told : goal.returns-in-Ok-clause-told
returns-in-Ok-clause-told c =
    entered_does c.args.self.now _ c.make_place.new.self c.args.site c.args.callee c.args.act c.entry_of.result c.in_ok-passing.passing.items c.call.result (record { program = refl; asked = refl }) (λ q. refl)
    c.call.ensures c.entry_of.ensures c.in_ok-passing.ensures c.in_ok-make_place.ensures.room c.in_ok-make_place.ensures.same c.enter.ensures c.in_ok-begin.ensures.ok c.in-Ok.ensures.added
