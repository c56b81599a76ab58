use Rattle.std.proofs.Common.{◌∙◌, ap, sym, subst, FitsSigned}
use Rattle.std.specs.Int.{w128}
use Rattle.std.proofs.lemmas.Int.{to_z-of_z}
use Rattle.cc_arith.specs.Conversions.{converted}
use Rattle.cc_arith.specs.Operators.{IsRightOperand}
use Rattle.cc_constants.specs.Operators.{kind_of_operation}
use Rattle.cc_constants.proofs.RightOperands.{right_fits}
use Rattle.cc_constants.proofs.operators.right_operand.Goals as goal

pub returns-clause-right : goal.returns-clause-right
returns-clause-right c =
    let w_fits = c.ranges.w in
    let r_fits : FitsSigned w128 c.convert.result = record { sfits = c.convert.type_inv } in
    let value = simp to_z-of_z at c.convert.ensures.value in
    let is = value ∙ ap (λ k. converted k c.args.w) c.kind_of_right.ensures in
    let done = subst (IsRightOperand c.args.op (kind_of_operation c.args.op c.args.j c.args.k)) (sym is) (right_fits c.args.op c.args.j c.args.k c.args.w) in
    simp to_z-of_z done
