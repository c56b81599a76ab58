-- What a static scalar may begin with (C26).
use Rattle.std.specs.Prelude.{ℕ, ℤ, pos, negsuc, Bool, true, false, ◌&&◌, ◌||◌, nat_lt, nat_eq, Option, Some, None}
use Rattle.cc_tree.specs.declared.operator.UnaryOp.{UnaryOp}
use Rattle.cc_tree.specs.declared.operator.UnaryOp.TheVariants as u
use Rattle.cc_tree.specs.Trees.{ExprTree, name, integer, character, string, paren, unary, binary, assign, step, choice, comma, call, member, arrow, index, cast, size_expr, size_type}
use Rattle.cc_tree_notes.specs.declared.note.Counted.{Counted}
use Rattle.cc_types.specs.declared.shape.Shape.{Shape}
use Rattle.cc_types.specs.declared.shape.Shape.TheVariants as s
use Rattle.cc_types.specs.declared.expr_type.ExprType.{ExprType}
use Rattle.cc_types.specs.declared.expr_type.ExprType.TheVariants.{Plain}
use Rattle.cc_symbols.specs.declared.declared.Declared.{Declared}
use Rattle.cc_symbols.specs.declared.declared.Form.{Form}
use Rattle.cc_symbols.specs.declared.declared.Form.TheVariants as form
use Rattle.cc_symbols.specs.declared.declared.Life.TheVariants as life
use Rattle.cc_symbols.specs.declared.findings.Findings.{Findings}
use Rattle.cc_symbols.specs.declared.symbols.Symbols.{Symbols}
use Rattle.cc_typing.specs.LookUps.{declaration_at}
use Rattle.cc_typing.specs.Forms.{is_null}
use Rattle.cc_constants.specs.Forms.{is_constant}
use Rattle.cc_constants.specs.Values.{constant}
use Rattle.cc_check_values.specs.Typed.{type_of}

abbrev pub is_function_form : Form → Bool
is_function_form form.Function = true
is_function_form f = false

abbrev pub is_static_form : Form → Bool
is_static_form (form.Object life.Static) = true
is_static_form f = false

abbrev pub has_form : (Form → Bool) → Option Declared → Bool
has_form test (Some d) = test d.form
has_form test None = false

-- the name of a function
abbrev pub is_function_name : Symbols → ExprTree Counted → Bool
is_function_name st (name n x) = has_form is_function_form (declaration_at st n.number)
is_function_name st e = false

-- the length of an array, where it is known
abbrev pub length_in : Option ExprType → Option ℕ
length_in (Some (Plain (s.Array is_const t length))) = length
length_in t = None

abbrev pub is_array_type : Option ExprType → Bool
is_array_type (Some (Plain (s.Array is_const t length))) = true
is_array_type t = false

-- below the length, or the length itself where that is allowed
abbrev pub is_from_start : Bool → ℕ → ℤ → Bool
is_from_start is_end n (pos i) = nat_lt i n || is_end && nat_eq i n
is_from_start is_end n (negsuc i) = false

abbrev pub is_up_to : Bool → Option ℕ → Option ℤ → Bool
is_up_to is_end (Some n) (Some i) = is_from_start is_end n i
is_up_to is_end n i = false

-- an index that is a constant from 0 to an array's length
abbrev pub is_within : Symbols → Findings → ExprTree Counted → ExprTree Counted → Bool → Bool
is_within st f base i is_end = is_up_to is_end (length_in (type_of f base)) (constant st f i)

-- a static path: the name of a static object with members and indices, each below its array's length
abbrev pub is_path : Symbols → Findings → ExprTree Counted → Bool
is_path st f (name n x) = has_form is_static_form (declaration_at st n.number)
is_path st f (member n e x) = is_path st f e
is_path st f (index n base i) = is_path st f base && is_within st f base i false
is_path st f e = false

-- a static path, or the place behind the last element of an array that is one
abbrev pub is_path_or_end : Symbols → Findings → ExprTree Counted → Bool
is_path_or_end st f (index n base i) = is_path st f base && is_within st f base i true
is_path_or_end st f e = is_path st f e

abbrev pub is_designator : Symbols → Findings → ExprTree Counted → Bool
is_designator st f e = is_function_name st e || is_array_type (type_of f e) && is_path st f e

-- a string literal, the name of a function with or without `&`, a static path of array type, `&` of a static path
abbrev pub is_address : Symbols → Findings → ExprTree Counted → Bool
is_address st f (string n bs) = true
is_address st f (unary n u.Address e) = is_function_name st e || is_path_or_end st f e
is_address st f e = is_designator st f e

-- one of the six forms: an integer constant expression, a null constant, or one of these
abbrev pub is_bare_form : Symbols → Findings → ExprTree Counted → Bool
is_bare_form st f e = is_constant st e || is_null st e || is_address st f e

-- in any parentheses
abbrev pub is_static_value : Symbols → Findings → ExprTree Counted → Bool
is_static_value st f (paren n e) = is_static_value st f e
is_static_value st f e = is_bare_form st f e
