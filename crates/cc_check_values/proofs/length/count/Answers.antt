use Rattle.cc_check_values.proofs.Counting.{count_is}
use Rattle.cc_check_values.proofs.length.count.Goals as goal

pub returns : goal.returns
returns c = count_is c.args.vs.now
