-- What is said of a node.
use Rattle.std.specs.Prelude.{ℕ, Bool, false, if◌then◌else◌, Option, Some, None}
use Rattle.cc_arith.specs.declared.kind.IntKind.{IntKind}
use Rattle.cc_arith.specs.declared.kind.IntKind.TheVariants.{Int}
use Rattle.cc_types.specs.declared.shape.Shape.TheVariants.{Integer}
use Rattle.cc_types.specs.declared.expr_type.ExprType.{ExprType}
use Rattle.cc_types.specs.declared.expr_type.ExprType.TheVariants.{Plain}
use Rattle.cc_judging.specs.declared.judged.Judged.{Judged}
use Rattle.cc_judging.specs.declared.judged.Judged.TheVariants as j
use Rattle.cc_judging.specs.declared.judged.Part.{Part}
use Rattle.cc_judging.specs.declared.judged.Part.TheVariants.{Second}

-- the type that a node has
abbrev pub kind_of : Judged → Option ExprType
kind_of (j.Typed t) = Some t
kind_of (j.Misfits t) = Some t
kind_of (j.Breaks r p) = None
kind_of j.Untyped = None

-- the rule that is broken, and where: a value that is assigned and doesn't fit breaks C38
abbrev pub broken_of : Judged → Option (ℕ × Part)
broken_of (j.Typed t) = None
broken_of (j.Misfits t) = Some (38, Second)
broken_of (j.Breaks r p) = Some (r, p)
broken_of j.Untyped = None

abbrev pub an_integer : IntKind → ExprType
an_integer k = Plain (Integer false k)

abbrev pub typed_integer : IntKind → Judged
typed_integer k = j.Typed (an_integer k)

-- the type, if the test holds, and else this rule is broken
abbrev pub or_breaks : Bool → ExprType → ℕ → Part → Judged
or_breaks b t r p = if b then j.Typed t else j.Breaks r p

abbrev pub int_or_breaks : Bool → ℕ → Part → Judged
int_or_breaks b r p = or_breaks b (an_integer Int) r p
