use Rattle.cc_parse_places.proofs.Beginnings.{before_the_refused}
use Rattle.cc_parse_places.proofs.laws.the_refused_token_ends_the_shortest_prefix.Goals as goal

pub returns : goal.returns
returns c = before_the_refused
