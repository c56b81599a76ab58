-- What operators give values, if they have them.
use Rattle.std.specs.Prelude.{ℤ, pos, Bool, Option, Some, None, Result, Ok, Err, if◌then◌else◌}
use Rattle.cc_arith.specs.declared.kind.IntKind.{IntKind}
use Rattle.cc_arith.specs.declared.binary_operator.IntOp.{IntOp}
use Rattle.cc_arith.specs.declared.binary_operator.IntOp.TheVariants as o
use Rattle.cc_arith.specs.declared.unary_operator.IntUnary.{IntUnary}
use Rattle.cc_arith.specs.declared.undefined.ArithUndef.{ArithUndef}
use Rattle.cc_arith.specs.Promotions.{promoted, common_of}
use Rattle.cc_arith.specs.Conversions.{converted, is_zero}
use Rattle.cc_arith.specs.Operators.{binary_of, unary_of}
use Rattle.cc_tree.specs.declared.operator.BinaryOp.{BinaryOp}
use Rattle.cc_tree.specs.declared.operator.BinaryOp.TheVariants as b
use Rattle.cc_tree.specs.declared.operator.UnaryOp.{UnaryOp}
use Rattle.cc_tree.specs.declared.operator.UnaryOp.TheVariants as u

-- what is defined
abbrev pub defined : Result ℤ ArithUndef → Option ℤ
defined (Ok v) = Some v
defined (Err why) = None

-- `op v`, where v has kind k
abbrev pub int_prefixed : IntUnary → IntKind → ℤ → Option ℤ
int_prefixed op k v = defined (unary_of op (promoted k) (converted (promoted k) v))

abbrev pub prefixed : UnaryOp → Option IntKind → Option ℤ → Option ℤ
prefixed (u.Int op) (Some k) (Some v) = int_prefixed op k v
prefixed op k v = None

-- the kind in which an operator works on two integers, and the one in which it takes its right operand: the count of a
-- shift has a kind of its own (C17 6.5.7, paragraph 3)
abbrev pub kind_of_operation : IntOp → IntKind → IntKind → IntKind
kind_of_operation o.Shl j k = promoted j
kind_of_operation o.Shr j k = promoted j
kind_of_operation op j k = common_of j k

abbrev pub kind_of_right : IntOp → IntKind → IntKind → IntKind
kind_of_right o.Shl j k = promoted k
kind_of_right o.Shr j k = promoted k
kind_of_right op j k = common_of j k

abbrev pub right_operand : IntOp → IntKind → IntKind → ℤ → ℤ
right_operand op j k w = converted (kind_of_right op j k) w

-- `v op w`, where v and w have kinds j and k
abbrev pub int_combined : IntOp → IntKind → ℤ → IntKind → ℤ → Option ℤ
int_combined op j v k w =
    defined (binary_of op (kind_of_operation op j k) (converted (kind_of_operation op j k) v) (right_operand op j k w))

abbrev pub both : IntOp → Option IntKind → Option ℤ → Option IntKind → Option ℤ → Option ℤ
both op (Some j) (Some v) (Some k) (Some w) = int_combined op j v k w
both op j v k w = None

-- 1 where it isn't 0
abbrev pub truth : Option ℤ → Option ℤ
truth (Some v) = Some (if is_zero v then pos 0 else pos 1)
truth None = None

-- `&&`: the right operand isn't evaluated where the left one is 0 (6.5.13, paragraph 4)
abbrev pub and_value : Option ℤ → Option ℤ → Option ℤ
and_value (Some v) w = if is_zero v then Some (pos 0) else truth w
and_value None w = None

-- `||`: the right operand isn't evaluated where the left one isn't 0 (6.5.14, paragraph 4)
abbrev pub or_value : Option ℤ → Option ℤ → Option ℤ
or_value (Some v) w = if is_zero v then truth w else Some (pos 1)
or_value None w = None

abbrev pub combined : BinaryOp → Option IntKind → Option ℤ → Option IntKind → Option ℤ → Option ℤ
combined (b.Int op) j v k w = both op j v k w
combined b.AndAnd j v k w = and_value v w
combined b.OrOr j v k w = or_value v w

-- the value in this kind
abbrev pub converted_to : Option IntKind → Option ℤ → Option ℤ
converted_to (Some k) (Some v) = Some (converted k v)
converted_to k v = None

-- `c ? v : w` of this kind: one branch alone is evaluated (6.5.15, paragraph 4)
abbrev pub chosen : Option IntKind → Option ℤ → Option ℤ → Option ℤ → Option ℤ
chosen k (Some c) v w = converted_to k (if is_zero c then w else v)
chosen k None v w = None
