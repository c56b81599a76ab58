use Rattle.cc_record_tables.specs.Sets.{seen_in}
use Rattle.cc_record.proofs.EventSteps.{added_some}
use Rattle.cc_record.proofs.recorder.note.Goals as goal

pub returns-in-Some-clause-added : goal.returns-in-Some-clause-added
returns-in-Some-clause-added c = added_some c.add.result c.args.given c.in-Some.coupling (seen_in c.args.seen.now) (seen_in c.add.new.self) c.in-Some.is c.add.ensures.added
