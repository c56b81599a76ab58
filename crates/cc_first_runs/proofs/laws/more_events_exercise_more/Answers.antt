use Rattle.cc_first_runs.proofs.Positions.{more_events_exercise_more}
use Rattle.cc_first_runs.proofs.laws.more_events_exercise_more.Goals as goal

pub returns : goal.returns
returns c = more_events_exercise_more
