use Rattle.std.proofs.Common.{ap, Ok}
use Rattle.cc_arith.proofs.BitLaws.{value_bits, value_of_bits, complement_number}
use Rattle.cc_arith.proofs.laws.bit_laws.Goals as goal

pub returns-clause-value_has_its_bits : goal.returns-clause-value_has_its_bits
returns-clause-value_has_its_bits c = value_bits

pub returns-clause-bits_give_the_value : goal.returns-clause-bits_give_the_value
returns-clause-bits_give_the_value c = value_of_bits

pub returns-clause-complement : goal.returns-clause-complement
returns-clause-complement c = λ k a promoted h. ap (λ z. Ok z) (complement_number k a promoted h)
