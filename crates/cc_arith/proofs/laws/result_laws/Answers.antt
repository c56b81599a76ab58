use Rattle.cc_arith.proofs.ResultLaws.{binary_gives_values, unary_gives_values}
use Rattle.cc_arith.proofs.laws.result_laws.Goals as goal

pub returns-clause-binary_gives_values : goal.returns-clause-binary_gives_values
returns-clause-binary_gives_values c = binary_gives_values

pub returns-clause-unary_gives_values : goal.returns-clause-unary_gives_values
returns-clause-unary_gives_values c = unary_gives_values
