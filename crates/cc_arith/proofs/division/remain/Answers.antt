use Rattle.std.proofs.Common.{◌∙◌, FitsSigned, sym}
use Rattle.std.specs.Int.{w128}
use Rattle.std.proofs.lemmas.Int.{to_z-of_z}
use Rattle.cc_arith.proofs.DivisionSteps.{divided_ok, divided_err}
use Rattle.cc_arith.proofs.division.remain.Goals as goal

pub returns-in-Ok : goal.returns-in-Ok
returns-in-Ok c =
    let a_fits = c.ranges.a in
    let b_fits = c.ranges.b in
    let q_fits : FitsSigned w128 c.quotient.result = record { sfits = c.quotient.type_inv } in
    let r_fits : FitsSigned w128 c.remainder.result = record { sfits = c.remainder.type_inv } in
    let fit = simp to_z-of_z at c.representable.ensures in
    let rest = simp to_z-of_z at c.remainder.ensures in
    let quotient = simp to_z-of_z at c.quotient.ensures in
    let done = divided_ok c.args.k c.args.a c.args.b c.quotient.result c.remainder.result c.in-Ok.field-0 c.if-b-eq0.false quotient (sym fit ∙ c.in-Ok.is) in
    simp to_z-of_z (rw (← rest) (sym done))

pub returns-in-Err : goal.returns-in-Err
returns-in-Err c =
    let a_fits = c.ranges.a in
    let b_fits = c.ranges.b in
    let q_fits : FitsSigned w128 c.quotient.result = record { sfits = c.quotient.type_inv } in
    let fit = simp to_z-of_z at c.representable.ensures in
    let quotient = simp to_z-of_z at c.quotient.ensures in
    sym (divided_err c.args.k c.args.a c.args.b c.quotient.result _ c.in-Err.why c.if-b-eq0.false quotient (sym fit ∙ c.in-Err.is))
