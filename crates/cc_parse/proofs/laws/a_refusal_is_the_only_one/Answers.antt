use Rattle.cc_parse.proofs.OneRefusal.{one_refusal}
use Rattle.cc_parse.proofs.laws.a_refusal_is_the_only_one.Goals as goal

pub returns : goal.returns
returns c = one_refusal
