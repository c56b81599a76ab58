use Rattle.cc_top_laws.proofs.OneAnswer.{one_answer}
use Rattle.cc_top_laws.proofs.one_answer.Goals as goal

pub returns : goal.returns
returns c = one_answer
