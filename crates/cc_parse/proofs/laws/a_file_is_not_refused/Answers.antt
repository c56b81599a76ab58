use Rattle.cc_parse.proofs.OneRefusal.{file_not_refused}
use Rattle.cc_parse.proofs.laws.a_file_is_not_refused.Goals as goal

pub returns : goal.returns
returns c = file_not_refused
