use Rattle.cc_first_runs.proofs.Along.{runs_are_paths}
use Rattle.cc_first_runs.proofs.laws.runs_are_paths.Goals as goal

pub returns : goal.returns
returns c = runs_are_paths
