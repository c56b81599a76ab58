use Rattle.cc_parse_depths.proofs.Told.{taken_with_two_more}
use Rattle.cc_parse_depths.proofs.laws.a_token_that_two_more_take_is_too_deep.Goals as goal

pub returns : goal.returns
returns c = taken_with_two_more
