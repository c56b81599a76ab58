use Rattle.cc_record_laws.proofs.Along.{records}
use Rattle.cc_record_laws.proofs.records.Goals as goal

pub returns : goal.returns
returns c = records
