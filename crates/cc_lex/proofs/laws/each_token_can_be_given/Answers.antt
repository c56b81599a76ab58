use Rattle.cc_lex.proofs.GivenLemmas.{token_given}
use Rattle.cc_lex.proofs.laws.each_token_can_be_given.Goals as goal

pub returns : goal.returns
returns c = token_given
