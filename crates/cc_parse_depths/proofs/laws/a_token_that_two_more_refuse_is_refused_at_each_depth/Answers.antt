use Rattle.cc_parse_depths.proofs.Told.{refused_with_two_more}
use Rattle.cc_parse_depths.proofs.laws.a_token_that_two_more_refuse_is_refused_at_each_depth.Goals as goal

pub returns : goal.returns
returns c = refused_with_two_more
