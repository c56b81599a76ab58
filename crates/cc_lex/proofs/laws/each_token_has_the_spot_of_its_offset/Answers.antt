use Rattle.cc_lex.proofs.Placed.{token_placed}
use Rattle.cc_lex.proofs.laws.each_token_has_the_spot_of_its_offset.Goals as goal

pub returns : goal.returns
returns c = token_placed
