use Rattle.cc_parse_places.proofs.Beginnings.{all_at_the_end}
use Rattle.cc_parse_places.proofs.laws.at_the_end_all_are_a_cut_off_file.Goals as goal

pub returns : goal.returns
returns c = all_at_the_end
