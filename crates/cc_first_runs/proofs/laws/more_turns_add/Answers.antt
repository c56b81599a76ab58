use Rattle.cc_first_runs.proofs.Turns.{more_turns_add}
use Rattle.cc_first_runs.proofs.laws.more_turns_add.Goals as goal

pub returns : goal.returns
returns c = more_turns_add
