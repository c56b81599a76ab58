use Rattle.cc_scopes.proofs.Blocks.{declaration_of-block}
use Rattle.cc_scopes.proofs.laws.other_names_mean_what_they_mean_outside.Goals as goal

pub returns : goal.returns
returns c = declaration_of-block
