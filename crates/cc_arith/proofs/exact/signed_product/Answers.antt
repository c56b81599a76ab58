use Rattle.std.proofs.Common.{arith, lit<}
use Rattle.std.specs.Int.{w128}
use Rattle.std.proofs.lemmas.Int.{ints, to_z-of_z, fits_signed_mul}
use Rattle.cc_arith.proofs.exact.signed_product.Goals as goal

pub returns : goal.returns
returns c =
    let a_fits = c.ranges.a in
    let b_fits = c.ranges.b in
    let product_fits = fits_signed_mul w128 c.args.a c.args.b 9223372036854775808 9223372036854775808 (omega (arith, ints)) (omega (arith, ints)) (lit< tt) in
    simp to_z-of_z
