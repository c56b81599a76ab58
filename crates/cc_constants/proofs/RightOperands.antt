-- What may stand on the right of an operator.
use Rattle.std.proofs.Common.{ℤ}
use Rattle.cc_arith.specs.declared.kind.IntKind.{IntKind}
use Rattle.cc_arith.specs.declared.binary_operator.IntOp.{IntOp}
use Rattle.cc_arith.specs.declared.binary_operator.IntOp.TheVariants as o
use Rattle.cc_arith.specs.Promotions.{promoted, common_of}
use Rattle.cc_arith.specs.Operators.{IsRightOperand}
use Rattle.cc_arith.proofs.ConversionLaws.{converted_within}
use Rattle.cc_constants.specs.Operators.{kind_of_operation, right_operand}

pub right_fits : (op : IntOp) (j k : IntKind) (w : ℤ) → IsRightOperand op (kind_of_operation op j k) (right_operand op j k w)
right_fits o.Shl j k w = (promoted k, converted_within (promoted k) w)
right_fits o.Shr j k w = (promoted k, converted_within (promoted k) w)
right_fits op j k w = converted_within (common_of j k) w
