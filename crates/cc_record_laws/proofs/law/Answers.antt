use Rattle.cc_record_laws.proofs.Exact.{exactly}
use Rattle.cc_record_laws.proofs.law.Goals as goal

pub returns : goal.returns
returns c = exactly
