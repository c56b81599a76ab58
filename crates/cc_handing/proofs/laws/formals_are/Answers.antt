use Rattle.cc_handing.proofs.Formals.{formals_are}
use Rattle.cc_handing.proofs.laws.formals_are.Goals as goal

pub returns : goal.returns
returns c = formals_are
