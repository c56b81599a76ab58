use Rattle.std.proofs.Common.{◌∙◌, ap, FitsSigned}
use Rattle.std.specs.Int.{w128}
use Rattle.std.proofs.lemmas.Int.{to_z-of_z}
use Rattle.cc_arith.specs.Conversions.{converted}
use Rattle.cc_arith.proofs.BitLaws.{complement_is}
use Rattle.cc_arith.proofs.bits.complement.Goals as goal

pub returns : goal.returns
returns c =
    let a_fits = c.ranges.a in
    let bits_fit : FitsSigned w128 c.opposite_bits.result = record { sfits = c.opposite_bits.type_inv } in
    let value_fits : FitsSigned w128 c.value_in.result = record { sfits = c.value_in.type_inv } in
    let bits = simp to_z-of_z at c.opposite_bits.ensures in
    let value = simp to_z-of_z at c.value_in.ensures in
    simp to_z-of_z (value ∙ ap (converted c.args.k) bits ∙ complement_is c.args.k c.args.a c.requires)
