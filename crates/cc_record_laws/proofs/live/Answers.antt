use Rattle.cc_record_laws.proofs.Drops.{live_records}
use Rattle.cc_record_laws.proofs.live.Goals as goal

pub returns : goal.returns
returns c = live_records
