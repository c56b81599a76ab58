-- What is known of a node, by its number.
use Rattle.std.specs.Prelude.{ℕ, Bool, true, false, not, ◌&&◌, List, Option, Some, None, slice_get}
use Rattle.cc_symbols.specs.declared.declared.Declared.{Declared}
use Rattle.cc_symbols.specs.declared.declared.Form.{Form}
use Rattle.cc_symbols.specs.declared.declared.Form.TheVariants as form
use Rattle.cc_symbols.specs.declared.symbols.Symbols.{Symbols}
use Rattle.cc_types.specs.declared.shape.Shape.{Shape}
use Rattle.cc_types.specs.declared.shape.Shape.TheVariants as shape
use Rattle.cc_types.specs.declared.shape.TypeId.{TypeId}
use Rattle.cc_types.specs.declared.expr_type.ExprType.{ExprType}
use Rattle.cc_types.specs.declared.expr_type.ExprType.TheVariants.{Plain}
use Rattle.cc_types.specs.Interning.{shape_of}

-- what stands at this number of a table, if it reaches so far
abbrev pub joined : {A : Type 0} → Option (Option A) → Option A
joined (Some x) = x
joined None = None

abbrev pub declaration_of : List Declared → Option (Option ℕ) → Option Declared
declaration_of ds (Some (Some n)) = slice_get ds n
declaration_of ds n = None

-- the declaration that the node of this number names
abbrev pub declaration_at : Symbols → ℕ → Option Declared
declaration_at s n = declaration_of s.declared (slice_get s.names n)

-- the type of the type name of this number
abbrev pub kind_at : Symbols → ℕ → Option TypeId
kind_at s n = joined (slice_get s.kinds n)

abbrev pub type_of_kind : List Shape → Option TypeId → Option ExprType
type_of_kind ss (Some id) = Some (Plain (shape_of ss id))
type_of_kind ss None = None

abbrev pub type_at : Symbols → ℕ → Option ExprType
type_at s n = type_of_kind s.types (kind_at s n)

abbrev pub is_object_form : Form → Bool
is_object_form (form.Object life) = true
is_object_form f = false

abbrev pub declares_object : Option Declared → Bool
declares_object (Some d) = is_object_form d.form
declares_object None = false

abbrev pub names_object : Symbols → ℕ → Bool
names_object s n = declares_object (declaration_at s n)

abbrev pub is_bare_void : Shape → Bool
is_bare_void (shape.Void k) = not k
is_bare_void a = false

abbrev pub points_to_void : Symbols → Shape → Bool
points_to_void s (shape.Pointer k id) = not k && is_bare_void (shape_of s.types id)
points_to_void s a = false

abbrev pub points_to_void_if_some : Symbols → Option TypeId → Bool
points_to_void_if_some s (Some id) = points_to_void s (shape_of s.types id)
points_to_void_if_some s None = false

-- the type name of this number is `void *`, or a typedef name of that type
abbrev pub is_void_pointer : Symbols → ℕ → Bool
is_void_pointer s n = points_to_void_if_some s (kind_at s n)
