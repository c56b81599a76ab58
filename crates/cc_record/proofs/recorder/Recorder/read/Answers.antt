use Rattle.std.proofs.Common.{refl}
use Rattle.cc_record.proofs.Moves.{seen_does}
use Rattle.cc_record.proofs.recorder.Recorder.read.Goals as goal

pub returns-clause-told : goal.returns-clause-told
returns-clause-told c =
    seen_does c.args.self.now _ c.make_read_place.new.activations c.args.occ c.args.cell c.args.act _ c.slot-slot.result c.component.result c.wrote.result c.read.result (record { program = refl; asked = refl }) refl
    c.deref-2.ensures.value c.slot-slot.ensures c.component.ensures c.wrote.ensures c.read.ensures c.read_by.ensures c.in_ok-make_read_place.ensures.same c.set_read.ensures c.in_ok-note.ensures.added
