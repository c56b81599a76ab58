use Rattle.cc_arith.proofs.BitLaws.{converted_bits}
use Rattle.cc_arith.proofs.laws.conversion_laws.Goals as goal

pub returns-clause-keeps_low_bits : goal.returns-clause-keeps_low_bits
returns-clause-keeps_low_bits c = λ k v i other h. converted_bits k v i other h
