use Rattle.cc_scopes.proofs.Blocks.{names_outside-block}
use Rattle.cc_scopes.proofs.laws.the_names_of_a_block_go.Goals as goal

pub returns : goal.returns
returns c = names_outside-block
