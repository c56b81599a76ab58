use Rattle.cc_parse_depths.proofs.Told.{as_far}
use Rattle.cc_parse_depths.proofs.laws.a_greater_depth_reads_as_far.Goals as goal

pub returns : goal.returns
returns c = as_far
