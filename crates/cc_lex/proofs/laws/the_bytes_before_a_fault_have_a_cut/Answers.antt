use Rattle.cc_lex.proofs.Placed.{front_cut}
use Rattle.cc_lex.proofs.laws.the_bytes_before_a_fault_have_a_cut.Goals as goal

pub returns : goal.returns
returns c = front_cut
