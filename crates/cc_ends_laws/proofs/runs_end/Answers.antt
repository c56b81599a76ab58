use Rattle.cc_ends_laws.proofs.Whole.{runs_end}
use Rattle.cc_ends_laws.proofs.runs_end.Goals as goal

pub returns : goal.returns
returns c = runs_end
