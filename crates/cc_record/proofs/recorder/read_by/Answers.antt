use Rattle.cc_record.proofs.Moves.{replaced}
use Rattle.cc_record.proofs.recorder.read_by.Goals as goal

pub returns-in-Some : goal.returns-in-Some
returns-in-Some c = replaced c.args.cells.now c.replace.new.self c.args.cell c.in-Some.slot c.read_by.result c.args.slot c.args.component c.requires c.in-Some.is c.read_by.ensures c.replace.ensures
