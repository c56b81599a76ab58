use Rattle.cc_lex.proofs.Placed.{cut_exists}
use Rattle.cc_lex.proofs.laws.a_cut_is_where_no_offset_is_faulty.Goals as goal

pub returns : goal.returns
returns c = λ bytes. (λ t. (t.1).faultless, λ f. cut_exists bytes f)
