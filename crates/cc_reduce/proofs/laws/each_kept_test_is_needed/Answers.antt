use Rattle.cc_reduce.proofs.Judged.{each_is_needed}
use Rattle.cc_reduce.proofs.laws.each_kept_test_is_needed.Goals as goal

pub returns : goal.returns
returns c = each_is_needed
