use Rattle.cc_handing.proofs.Functions.{functions_are}
use Rattle.cc_handing.proofs.laws.functions_are.Goals as goal

pub returns : goal.returns
returns c = functions_are
