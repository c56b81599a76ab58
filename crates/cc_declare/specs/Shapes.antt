-- What rules on declarations ask of types.
use Rattle.std.specs.Prelude.{Bool, true, false, not, ◌&&◌, ◌||◌, nat_lt, Option, Some, None}
use Rattle.cc_types.specs.Interning.{shape_of, is_function}
use Rattle.cc_types.specs.Measures.{measure_of}
use Rattle.cc_types.specs.Shapes.{built, types_of}
use Rattle.cc_types.specs.Structs.{is_complete}
use Rattle.cc_types.specs.declared.shape.Shape.{Shape}
use Rattle.cc_types.specs.declared.shape.Shape.TheVariants as h
use Rattle.cc_types.specs.declared.shape.TypeId.{TypeId}
use Rattle.cc_declare.specs.declared.checker.Checker.{Checker}

abbrev pub is_void : Shape → Bool
is_void (h.Void k) = true
is_void a = false

abbrev pub is_plain_void : Shape → Bool
is_plain_void (h.Void k) = not k
is_plain_void a = false

abbrev pub is_array : Shape → Bool
is_array (h.Array k t n) = true
is_array a = false

abbrev pub lacks_length : Shape → Bool
lacks_length (h.Array k t None) = true
lacks_length a = false

abbrev pub is_struct : Shape → Bool
is_struct (h.Struct k id) = true
is_struct a = false

-- no function may have this result
abbrev pub is_no_result : Shape → Bool
is_no_result a = is_array a || is_function a || is_struct a

abbrev pub is_incomplete_struct : Checker → Shape → Bool
is_incomplete_struct s (h.Struct k id) = not (is_complete s.symbols.structs id)
is_incomplete_struct s a = false

-- no object, member or element may have a type of this form
abbrev pub is_no_object : Checker → Shape → Bool
is_no_object s a = is_void a || is_function a || is_incomplete_struct s a

-- an object has at most 1,048,576 cells
abbrev pub has_too_many_cells : Checker → Shape → Bool
has_too_many_cells s a = nat_lt 1048576 (measure_of s.symbols.structs (built (types_of s.symbols.types) a)).cells

abbrev pub is_void_type : Checker → Option TypeId → Bool
is_void_type s None = false
is_void_type s (Some t) = is_void (shape_of s.symbols.types t)

abbrev pub points_to_void : Checker → Shape → Bool
points_to_void s (h.Pointer k t) = not k && is_plain_void (shape_of s.symbols.types t)
points_to_void s a = false

-- a type is `void *`, with no const
abbrev pub is_void_pointer : Checker → Option TypeId → Bool
is_void_pointer s None = false
is_void_pointer s (Some t) = points_to_void s (shape_of s.symbols.types t)

abbrev pub is_struct_type : Checker → Option TypeId → Bool
is_struct_type s None = false
is_struct_type s (Some t) = is_struct (shape_of s.symbols.types t)
