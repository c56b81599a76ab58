use Rattle.std.proofs.Common.{FitsSigned}
use Rattle.std.specs.Int.{w128}
use Rattle.std.proofs.lemmas.Int.{to_z-of_z}
use Rattle.cc_arith.proofs.tests.binary_in_c.Goals as goal

pub binary-requires-clause-right : goal.binary-requires-clause-right
binary-requires-clause-right c =
    let fits : FitsSigned w128 c.convert-right.result = record { sfits = c.convert-right.type_inv } in
    (c.args.l, simp to_z-of_z c.convert-right.ensures.within)

pub binary-requires-in-Shr-clause-right : goal.binary-requires-in-Shr-clause-right
binary-requires-in-Shr-clause-right c =
    let fits : FitsSigned w128 c.convert-right.result = record { sfits = c.convert-right.type_inv } in
    (c.args.l, simp to_z-of_z c.convert-right.ensures.within)
