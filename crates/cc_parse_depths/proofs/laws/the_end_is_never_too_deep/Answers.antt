use Rattle.cc_parse_depths.proofs.Told.{end_at_each_depth}
use Rattle.cc_parse_depths.proofs.laws.the_end_is_never_too_deep.Goals as goal

pub returns : goal.returns
returns c = end_at_each_depth
