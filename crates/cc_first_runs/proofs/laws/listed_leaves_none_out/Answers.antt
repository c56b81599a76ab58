use Rattle.cc_first_runs.proofs.Positions.{listed_leaves_none_out}
use Rattle.cc_first_runs.proofs.laws.listed_leaves_none_out.Goals as goal

pub returns : goal.returns
returns c = listed_leaves_none_out
