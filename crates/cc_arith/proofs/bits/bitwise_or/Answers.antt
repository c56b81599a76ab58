use Rattle.std.proofs.Common.{◌∙◌, ap, FitsSigned}
use Rattle.std.specs.Int.{w128}
use Rattle.std.proofs.lemmas.Int.{to_z-of_z}
use Rattle.cc_arith.specs.Conversions.{converted}
use Rattle.cc_arith.proofs.BitLaws.{or_is}
use Rattle.cc_arith.proofs.bits.bitwise_or.Goals as goal

pub returns : goal.returns
returns c =
    let a_fits = c.ranges.a in
    let b_fits = c.ranges.b in
    let bits_fit : FitsSigned w128 c.bits_in_either.result = record { sfits = c.bits_in_either.type_inv } in
    let value_fits : FitsSigned w128 c.value_in.result = record { sfits = c.value_in.type_inv } in
    let bits = simp to_z-of_z at c.bits_in_either.ensures in
    let value = simp to_z-of_z at c.value_in.ensures in
    simp to_z-of_z (value ∙ ap (converted c.args.k) bits ∙ or_is c.args.k c.args.a c.args.b c.requires a_fits b_fits)
