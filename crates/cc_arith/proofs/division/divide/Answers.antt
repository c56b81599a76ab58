use Rattle.std.proofs.Common.{◌∙◌, FitsSigned}
use Rattle.std.specs.Int.{w128}
use Rattle.std.proofs.lemmas.Int.{to_z-of_z}
use Rattle.cc_arith.proofs.DivisionSteps.{divided_quotient}
use Rattle.cc_arith.proofs.division.divide.Goals as goal

pub returns : goal.returns
returns c =
    let a_fits = c.ranges.a in
    let b_fits = c.ranges.b in
    let q_fits : FitsSigned w128 c.quotient.result = record { sfits = c.quotient.type_inv } in
    (simp to_z-of_z at c.representable.ensures) ∙ divided_quotient c.args.k c.args.a c.args.b c.quotient.result c.if-b-eq0.false (simp to_z-of_z at c.quotient.ensures)
