-- What is said of a node in terms of types, and what the answers of rules mean so.
use Rattle.std.specs.Prelude.{ℕ, Bool, true, false, if◌then◌else◌, List, Option, Some, None, IfSome, ◌≡◌}
use Rattle.cc_arith.specs.declared.kind.IntKind.{IntKind}
use Rattle.cc_arith.specs.declared.kind.IntKind.TheVariants.{Int}
use Rattle.cc_types.specs.CTypes.{CTypeTree, integer_of}
use Rattle.cc_types.specs.declared.expr_type.ExprType.{ExprType}
use Rattle.cc_types.specs.declared.expr_type.ExprType.TheVariants.{Plain, Address}
use Rattle.cc_types.specs.ExprTypes.{expr_type, HasSound}
use Rattle.cc_judging.specs.declared.judged.Judged.{Judged}
use Rattle.cc_judging.specs.declared.judged.Judged.TheVariants as j
use Rattle.cc_judging.specs.declared.judged.Part.{Part}
use Rattle.cc_judging.specs.Judging.{kind_of}

-- it has a type, or breaks a rule and has none, or has a type and its second part doesn't fit, or a part has no type
pub data Judgement : Type 0 where
  typed : CTypeTree → Judgement
  breaks : ℕ → Part → Judgement
  misfits : CTypeTree → Judgement
  untyped : Judgement

abbrev pub type_part : Judgement → Option CTypeTree
type_part (typed t) = Some t
type_part (misfits t) = Some t
type_part (breaks r p) = None
type_part untyped = None

abbrev pub an_integer : IntKind → CTypeTree
an_integer k = integer_of false k

-- the type, if the test holds, and else this rule is broken
abbrev pub or_breaks : Bool → CTypeTree → ℕ → Part → Judgement
or_breaks b t r p = if b then typed t else breaks r p

abbrev pub int_or_breaks : Bool → ℕ → Part → Judgement
int_or_breaks b r p = or_breaks b (an_integer Int) r p

-- ---- What an answer means where these are the types of the table

abbrev pub meant : List CTypeTree → Judged → Judgement
meant ts (j.Typed t) = typed (expr_type ts t)
meant ts (j.Breaks r p) = breaks r p
meant ts (j.Misfits t) = misfits (expr_type ts t)
meant ts j.Untyped = untyped

-- what its type is made of is in the table
abbrev pub JudgedSound : List CTypeTree → Judged → Type 0
JudgedSound ts j = IfSome (kind_of j) (HasSound ts)

-- no address alone
abbrev pub is_plain : ExprType → Bool
is_plain (Plain a) = true
is_plain (Address a) = false

abbrev pub IsPlain : ExprType → Type 0
IsPlain t = is_plain t ≡ true
