use Rattle.cc_parse_places.proofs.Refused.{no_file_begins_so}
use Rattle.cc_parse_places.proofs.laws.no_file_begins_so.Goals as goal

pub returns : goal.returns
returns c = λ d tokens refused rest failed more f. no_file_begins_so d tokens refused rest more f failed
