-- How values become values of a type (C17 6.3).
use Rattle.std.specs.Prelude.{ℕ, Option, Some, None, slice_get}
use Rattle.cc_acts.specs.declared.value_act.Conversion.{Conversion}
use Rattle.cc_acts.specs.declared.value_act.Conversion.TheVariants as to
use Rattle.cc_program.specs.declared.program.Program.{Program}
use Rattle.cc_program.specs.Programs.{or_none}
use Rattle.cc_types.specs.declared.expr_type.ExprType.{ExprType}
use Rattle.cc_types.specs.declared.expr_type.ExprType.TheVariants.{Plain, Address}
use Rattle.cc_types.specs.declared.shape.Shape.{Shape}
use Rattle.cc_types.specs.declared.shape.Shape.TheVariants as s

-- to a type: an integer becomes one of its kind (6.3.1.2, 6.3.1.3), what is a pointer as a value one (6.3.2.1, 6.3.2.3);
-- void has no values, and a struct is none
abbrev pub conversion_to : Shape → Conversion
conversion_to (s.Integer c kind) = to.Integer kind
conversion_to (s.Pointer c t) = to.Pointer
conversion_to (s.Array c t n) = to.Pointer
conversion_to (s.Function t) = to.Pointer
conversion_to (s.Takes t f) = to.Pointer
conversion_to (s.Struct c id) = to.Void
conversion_to (s.Void c) = to.Void

abbrev pub conversion_by : Option ExprType → Conversion
conversion_by (Some (Plain a)) = conversion_to a
conversion_by (Some (Address a)) = to.Pointer
conversion_by None = to.Void

-- the type of the expression at a node
abbrev pub type_at : Program → ℕ → Option ExprType
type_at p n = or_none (slice_get p.known.found.types n)

-- to the type of the expression at a node
abbrev pub conversion_at : Program → ℕ → Conversion
conversion_at p n = conversion_by (type_at p n)
