use Rattle.cc_first_runs.proofs.Ends.{whole_programs_end}
use Rattle.cc_first_runs.proofs.laws.whole_programs_end.Goals as goal

pub returns : goal.returns
returns c = whole_programs_end
