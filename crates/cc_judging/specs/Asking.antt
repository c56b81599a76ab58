-- What rules ask of the types of expressions, where the shapes of a table and the structs are known.
use Rattle.std.specs.Prelude.{Bool, List, Option}
use Rattle.cc_arith.specs.declared.kind.IntKind.{IntKind}
use Rattle.cc_types.specs.declared.shape.Shape.{Shape}
use Rattle.cc_types.specs.declared.structs.StructEntry.{StructEntry}
use Rattle.cc_types.specs.declared.expr_type.ExprType.{ExprType}
use Rattle.cc_types.specs.Shapes.{built, types_of}
use Rattle.cc_types.specs.ExprTypes.{expr_type}
use Rattle.cc_types.specs.Questions as types
use Rattle.cc_types.specs.Measures.{measure_of}

abbrev pub kind_in : List Shape → ExprType → Option IntKind
kind_in ss t = types.kind_of (expr_type (types_of ss) t)

abbrev pub promoted_in : List Shape → ExprType → Option IntKind
promoted_in ss t = types.promoted_kind (expr_type (types_of ss) t)

abbrev pub is_void : List Shape → ExprType → Bool
is_void ss t = types.is_void (expr_type (types_of ss) t)

abbrev pub is_integer : List Shape → ExprType → Bool
is_integer ss t = types.is_integer (expr_type (types_of ss) t)

abbrev pub is_pointer : List Shape → ExprType → Bool
is_pointer ss t = types.is_pointer (expr_type (types_of ss) t)

abbrev pub is_scalar : List Shape → ExprType → Bool
is_scalar ss t = types.is_scalar (expr_type (types_of ss) t)

abbrev pub points_to_object : List Shape → ExprType → Bool
points_to_object ss t = types.points_to_object (expr_type (types_of ss) t)

abbrev pub is_complete : List Shape → List StructEntry → Shape → Bool
is_complete ss es a = (measure_of es (built (types_of ss) a)).is_complete
