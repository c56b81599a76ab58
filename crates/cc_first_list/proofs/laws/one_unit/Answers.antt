use Rattle.cc_first_list.proofs.OneUnit as units
use Rattle.cc_first_list.proofs.laws.one_unit.Goals as goal

pub returns : goal.returns
returns c = units.one_unit
