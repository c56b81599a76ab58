use Rattle.cc_parse_places.proofs.Beginnings.{first_tokens}
use Rattle.cc_parse_places.proofs.laws.the_first_tokens_of_a_cut_off_file_are_one.Goals as goal

pub returns : goal.returns
returns c = first_tokens
