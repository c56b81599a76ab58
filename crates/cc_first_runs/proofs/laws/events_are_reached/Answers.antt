use Rattle.cc_first_runs.proofs.Positions.{events_are_reached}
use Rattle.cc_first_runs.proofs.laws.events_are_reached.Goals as goal

pub returns : goal.returns
returns c = events_are_reached
