use Rattle.cc_parse_places.proofs.CutOffs.{no_cut_off_file_begins_so}
use Rattle.cc_parse_places.proofs.laws.no_cut_off_file_begins_so.Goals as goal

pub returns : goal.returns
returns c = no_cut_off_file_begins_so
