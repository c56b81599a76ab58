use Rattle.cc_grammar.proofs.WholeTrees.{whole_is_cut_off}
use Rattle.cc_grammar.proofs.laws.a_whole_file_is_a_cut_off_one.Goals as goal

pub returns : goal.returns
returns c = whole_is_cut_off
