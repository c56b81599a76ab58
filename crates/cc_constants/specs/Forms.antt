-- Which expressions are integer constant expressions by their form (C17 6.6, paragraph 6).
use Rattle.std.specs.Prelude.{ℕ, ℤ, Bool, true, false, ◌&&◌, Option, Some, None}
use Rattle.cc_tree.specs.declared.operator.UnaryOp.{UnaryOp}
use Rattle.cc_tree.specs.declared.operator.UnaryOp.TheVariants as u
use Rattle.cc_tree.specs.Trees.{ExprTree, name, integer, character, string, paren, unary, binary, assign, step, choice, comma, call, member, arrow, index, cast, size_expr, size_type}
use Rattle.cc_tree_notes.specs.declared.note.Counted.{Counted}
use Rattle.cc_tree_walks.specs.Notes.{type_note}
use Rattle.cc_symbols.specs.declared.declared.Declared.{Declared}
use Rattle.cc_symbols.specs.declared.declared.Form.{Form}
use Rattle.cc_symbols.specs.declared.declared.Form.TheVariants as form
use Rattle.cc_symbols.specs.declared.symbols.Symbols.{Symbols}
use Rattle.cc_types.specs.declared.shape.Shape.{Shape}
use Rattle.cc_types.specs.declared.shape.Shape.TheVariants as s
use Rattle.cc_types.specs.declared.shape.TypeId.{TypeId}
use Rattle.cc_types.specs.Interning.{shape_of}
use Rattle.cc_typing.specs.LookUps.{declaration_at, kind_at}

abbrev pub enumerator : Form → Option ℤ
enumerator (form.Constant v) = Some v
enumerator f = None

abbrev pub enumerator_of : Option Declared → Option ℤ
enumerator_of (Some d) = enumerator d.form
enumerator_of None = None

-- the value of the enumeration constant that the node of this number names
abbrev pub enumerator_at : Symbols → ℕ → Option ℤ
enumerator_at s n = enumerator_of (declaration_at s n)

abbrev pub is_known : Option ℤ → Bool
is_known (Some v) = true
is_known None = false

abbrev pub is_integer_shape : Shape → Bool
is_integer_shape (s.Integer k kind) = true
is_integer_shape a = false

abbrev pub is_integer_type : Symbols → Option TypeId → Bool
is_integer_type s (Some id) = is_integer_shape (shape_of s.types id)
is_integer_type s None = false

-- the type name of this number is one of an integer type
abbrev pub is_integer_at : Symbols → ℕ → Bool
is_integer_at s n = is_integer_type s (kind_at s n)

-- `+`, `-`, `~` and `!`
abbrev pub is_arithmetic : UnaryOp → Bool
is_arithmetic (u.Int op) = true
is_arithmetic op = false

-- Its operands are integer and character constants, enumeration constants and `sizeof`; its operators are casts to integer
-- types, those with one or two operands, and `?:`.
abbrev pub is_constant : Symbols → ExprTree Counted → Bool
is_constant s (integer n v k) = true
is_constant s (character n v) = true
is_constant s (size_expr n e) = true
is_constant s (size_type n t) = true
is_constant s (name n x) = is_known (enumerator_at s n.number)
is_constant s (paren n e) = is_constant s e
is_constant s (unary n op e) = is_arithmetic op && is_constant s e
is_constant s (binary n op a b) = is_constant s a && is_constant s b
is_constant s (choice n c a b) = is_constant s c && is_constant s a && is_constant s b
is_constant s (cast n t e) = is_integer_at s (type_note t).number && is_constant s e
is_constant s e = false
