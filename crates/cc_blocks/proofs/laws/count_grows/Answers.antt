use Rattle.cc_blocks.proofs.Counts.{count_grows}
use Rattle.cc_blocks.proofs.laws.count_grows.Goals as goal

pub returns : goal.returns
returns c = count_grows
