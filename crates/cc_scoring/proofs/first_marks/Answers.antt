use Rattle.cc_scoring.proofs.Named.{marks_name_first}
use Rattle.cc_scoring.proofs.first_marks.Goals as goal

pub returns : goal.returns
returns c = marks_name_first
