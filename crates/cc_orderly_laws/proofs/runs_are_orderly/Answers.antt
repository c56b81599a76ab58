use Rattle.cc_orderly_laws.proofs.Whole.{runs_orderly}
use Rattle.cc_orderly_laws.proofs.runs_are_orderly.Goals as goal

pub returns : goal.returns
returns c = runs_orderly
