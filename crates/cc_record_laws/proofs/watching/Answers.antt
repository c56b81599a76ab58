use Rattle.cc_record_laws.proofs.Steps.{watches}
use Rattle.cc_record_laws.proofs.watching.Goals as goal

pub returns : goal.returns
returns c = watches
