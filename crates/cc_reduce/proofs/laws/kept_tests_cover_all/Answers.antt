use Rattle.cc_reduce.proofs.Judged.{kept_cover_all}
use Rattle.cc_reduce.proofs.laws.kept_tests_cover_all.Goals as goal

pub returns : goal.returns
returns c = kept_cover_all
