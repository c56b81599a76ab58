use Rattle.cc_first_runs.proofs.Positions.{exercised_are_couplings}
use Rattle.cc_first_runs.proofs.laws.exercised_are_couplings.Goals as goal

pub returns : goal.returns
returns c = exercised_are_couplings
