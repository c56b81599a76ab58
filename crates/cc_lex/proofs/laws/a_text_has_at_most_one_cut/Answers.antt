use Rattle.cc_lex.proofs.Placed.{one_token_list}
use Rattle.cc_lex.proofs.laws.a_text_has_at_most_one_cut.Goals as goal

pub returns : goal.returns
returns c = one_token_list
