-- What stands on the right of an operator, and both operands in their kinds.
use Rattle.std.specs.Prelude.{ℤ, ◌≡◌}
use Rattle.std.proofs.Common.{refl, sym, ap, ◌∙◌, subst}
use Rattle.cc_arith.specs.declared.kind.IntKind.{IntKind}
use Rattle.cc_arith.specs.declared.binary_operator.IntOp.{IntOp}
use Rattle.cc_arith.specs.declared.binary_operator.IntOp.TheVariants.{Shl, Shr, Add, Sub, Mul, Div, Rem, And, Or, Xor, Lt, Le, Gt, Ge, Eq, Ne}
use Rattle.cc_arith.specs.declared.unary_operator.IntUnary.{IntUnary}
use Rattle.cc_arith.specs.Kinds.{IsInRange}
use Rattle.cc_arith.specs.Operators.{IsRightOperand, binary_of, unary_of}
use Rattle.cc_arith.specs.Promotions.{promoted}
use Rattle.cc_arith.specs.Conversions.{converted}
use Rattle.cc_acts.specs.Values.{right_kind}

to_kind : (left k : IntKind) (b : ℤ) → k ≡ promoted left → IsInRange (promoted left) b → IsInRange k b
to_kind left k b e h = subst (λ j. IsInRange j b) (sym e) h

-- a value of the right kind may stand there
pub right_ok : (op : IntOp) (left right k : IntKind) (b : ℤ) → k ≡ promoted left → IsInRange (right_kind op left right) b → IsRightOperand op k b
right_ok Shl left right k b e h = (right, h)
right_ok Shr left right k b e h = (right, h)
right_ok Add left right k b e h = to_kind left k b e h
right_ok Sub left right k b e h = to_kind left k b e h
right_ok Mul left right k b e h = to_kind left k b e h
right_ok Div left right k b e h = to_kind left k b e h
right_ok Rem left right k b e h = to_kind left k b e h
right_ok And left right k b e h = to_kind left k b e h
right_ok Or left right k b e h = to_kind left k b e h
right_ok Xor left right k b e h = to_kind left k b e h
right_ok Lt left right k b e h = to_kind left k b e h
right_ok Le left right k b e h = to_kind left k b e h
right_ok Gt left right k b e h = to_kind left k b e h
right_ok Ge left right k b e h = to_kind left k b e h
right_ok Eq left right k b e h = to_kind left k b e h
right_ok Ne left right k b e h = to_kind left k b e h

-- both operands in their kinds
pub in_kinds : (op : IntOp) (left right k r : IntKind) (a b x y : ℤ) → k ≡ promoted left → r ≡ right_kind op left right → x ≡ converted k a → y ≡ converted r b → binary_of op k x y ≡ binary_of op (promoted left) (converted (promoted left) a) (converted (right_kind op left right) b)
in_kinds op left right k r a b x y e f g h = cc

-- the one operand in its kind
pub in_kind : (op : IntUnary) (kind k : IntKind) (a x : ℤ) → k ≡ promoted kind → x ≡ converted k a → unary_of op k x ≡ unary_of op (promoted kind) (converted (promoted kind) a)
in_kind op kind k a x e f = cc
