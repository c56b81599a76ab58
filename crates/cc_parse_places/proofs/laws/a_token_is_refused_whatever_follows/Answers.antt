use Rattle.cc_parse_places.proofs.Refused.{refused_whatever_follows}
use Rattle.cc_parse_places.proofs.laws.a_token_is_refused_whatever_follows.Goals as goal

pub returns : goal.returns
returns c = refused_whatever_follows
