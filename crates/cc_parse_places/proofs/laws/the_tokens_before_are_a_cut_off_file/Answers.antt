use Rattle.cc_parse_places.proofs.BegunFiles.{cut_off_before}
use Rattle.cc_parse_places.proofs.laws.the_tokens_before_are_a_cut_off_file.Goals as goal

pub returns : goal.returns
returns c = cut_off_before
