use Rattle.cc_first_list.proofs.Forms.{two_files}
use Rattle.cc_first_list.proofs.answer.first_answer.Goals as goal

pub returns-in_default-clause-none : goal.returns-in_default-clause-none
returns-in_default-clause-none c = λ first. (rw c.in_default.is at c.two_of.ensures.none) (two_files c.args.bytes.now c.args.files.now c.args.contents.now first)
