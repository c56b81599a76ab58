use Rattle.std.proofs.Common.{[]}
use Rattle.cc_parse_depths.proofs.Told.{read_deeper}
use Rattle.cc_parse_depths.proofs.laws.a_greater_depth_reads_the_same_file.Goals as goal

pub returns : goal.returns
returns c = λ d e tokens f h is. read_deeper d e tokens (f, []) h is
