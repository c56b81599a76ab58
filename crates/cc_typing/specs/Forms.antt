-- What an expression looks like.
use Rattle.std.specs.Prelude.{ℕ, ℤ, pos, Bool, true, false, ◌&&◌}
use Rattle.std.specs.Ordering.{int_eq}
use Rattle.cc_tree.specs.declared.operator.UnaryOp.{UnaryOp}
use Rattle.cc_tree.specs.declared.operator.UnaryOp.TheVariants as u
use Rattle.cc_tree.specs.Trees.{ExprTree, name, integer, character, string, paren, unary, binary, assign, step, choice, comma, call, member, arrow, index, cast, size_expr, size_type}
use Rattle.cc_tree_notes.specs.declared.note.Counted.{Counted}
use Rattle.cc_tree_walks.specs.Notes.{type_note}
use Rattle.cc_symbols.specs.declared.symbols.Symbols.{Symbols}
use Rattle.cc_typing.specs.LookUps.{names_object, is_void_pointer}

-- an integer constant token of value 0, in any parentheses
abbrev pub is_zero : ExprTree Counted → Bool
is_zero (integer n v k) = int_eq v (pos 0)
is_zero (paren n e) = is_zero e
is_zero e = false

-- a cast by the type name of this number is a null constant
abbrev pub makes_null : Symbols → ℕ → ExprTree Counted → Bool
makes_null s n e = is_void_pointer s n && is_zero e

-- an integer constant token of value 0, or `(void *)` applied to one, each in any parentheses
abbrev pub is_null : Symbols → ExprTree Counted → Bool
is_null s (integer n v k) = int_eq v (pos 0)
is_null s (paren n e) = is_null s e
is_null s (cast n t e) = makes_null s (type_note t).number e
is_null s e = false

abbrev pub is_dereference : UnaryOp → Bool
is_dereference u.Deref = true
is_dereference op = false

-- an lvalue (C17 6.3.2.1), if it has a type other than a function's
abbrev pub is_place : Symbols → ExprTree Counted → Bool
is_place s (name n x) = names_object s n.number
is_place s (string n ss) = true
is_place s (paren n e) = is_place s e
is_place s (unary n op e) = is_dereference op
is_place s (member n e x) = is_place s e
is_place s (arrow n e x) = true
is_place s (index n a i) = true
is_place s e = false
