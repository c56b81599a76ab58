-- The types of expressions.
use Rattle.std.specs.Prelude.{Bool, true, false, List, ◌≡◌}
use Rattle.cc_types.specs.CTypes.{CTypeTree, pointer_to}
use Rattle.cc_types.specs.Shapes.{built, is_sound}
use Rattle.cc_types.specs.declared.expr_type.ExprType.{ExprType}
use Rattle.cc_types.specs.declared.expr_type.ExprType.TheVariants.{Plain, Address}

abbrev pub expr_type : List CTypeTree → ExprType → CTypeTree
expr_type ts (Plain a) = built ts a
expr_type ts (Address a) = pointer_to false (built ts a)

-- what it is made of is there
abbrev pub has_sound : List CTypeTree → ExprType → Bool
has_sound ts (Plain a) = is_sound ts a
has_sound ts (Address a) = is_sound ts a

abbrev pub HasSound : List CTypeTree → ExprType → Type 0
HasSound ts t = has_sound ts t ≡ true
