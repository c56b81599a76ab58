-- The values of integer constant expressions (C17 6.6).
use Rattle.std.specs.Prelude.{ℕ, ℤ, pos, Bool, true, false, ◌&&◌, List, Option, Some, None, slice_get, if◌then◌else◌}
use Rattle.cc_arith.specs.declared.kind.IntKind.{IntKind}
use Rattle.cc_tree.specs.Trees.{ExprTree, name, integer, character, string, paren, unary, binary, assign, step, choice, comma, call, member, arrow, index, cast, size_expr, size_type}
use Rattle.cc_tree_notes.specs.declared.note.Counted.{Counted}
use Rattle.cc_tree_walks.specs.Notes.{expr_note, type_note}
use Rattle.cc_symbols.specs.declared.findings.Findings.{Findings}
use Rattle.cc_symbols.specs.declared.symbols.Symbols.{Symbols}
use Rattle.cc_types.specs.declared.shape.Shape.{Shape}
use Rattle.cc_types.specs.declared.shape.TypeId.{TypeId}
use Rattle.cc_types.specs.declared.expr_type.ExprType.{ExprType}
use Rattle.cc_types.specs.declared.expr_type.ExprType.TheVariants.{Plain, Address}
use Rattle.cc_types.specs.Interning.{shape_of}
use Rattle.cc_types.specs.Shapes.{built, types_of}
use Rattle.cc_types.specs.Measures.{measure_of}
use Rattle.cc_judging.specs.Asking.{kind_in}
use Rattle.cc_typing.specs.LookUps.{joined, kind_at}
use Rattle.cc_constants.specs.Forms.{is_constant, enumerator_at}
use Rattle.cc_constants.specs.Operators.{prefixed, combined, chosen, converted_to}

-- the type that a node has
abbrev pub type_of : Findings → ExprTree Counted → Option ExprType
type_of f e = joined (slice_get f.types (expr_note e).number)

abbrev pub kind_of_type : Symbols → Option ExprType → Option IntKind
kind_of_type s (Some t) = kind_in s.types t
kind_of_type s None = None

-- the integer kind that a node has
abbrev pub kind_of : Symbols → Findings → ExprTree Counted → Option IntKind
kind_of s f e = kind_of_type s (type_of f e)

-- the bytes of an object (6.5.3.4)
abbrev pub bytes_of : Symbols → Shape → ℤ
bytes_of s a = pos (measure_of s.structs (built (types_of s.types) a)).size

abbrev pub size_of : Symbols → Option ExprType → Option ℤ
size_of s (Some (Plain a)) = Some (bytes_of s a)
size_of s (Some (Address a)) = Some (pos 8)
size_of s None = None

abbrev pub size_of_kind : Symbols → Option TypeId → Option ℤ
size_of_kind s (Some id) = Some (bytes_of s (shape_of s.types id))
size_of_kind s None = None

abbrev pub size_at : Symbols → ℕ → Option ℤ
size_at s n = size_of_kind s (kind_at s n)

-- the value of what is a constant expression by its form, if it is defined
abbrev pub value : Symbols → Findings → ExprTree Counted → Option ℤ
value s f (integer n v k) = Some v
value s f (character n v) = Some v
value s f (name n x) = enumerator_at s n.number
value s f (paren n e) = value s f e
value s f (unary n op e) = prefixed op (kind_of s f e) (value s f e)
value s f (binary n op a b) = combined op (kind_of s f a) (value s f a) (kind_of s f b) (value s f b)
value s f (choice n c a b) = chosen (kind_of s f (choice n c a b)) (value s f c) (value s f a) (value s f b)
value s f (cast n t e) = converted_to (kind_of s f (cast n t e)) (value s f e)
value s f (size_expr n e) = size_of s (type_of f e)
value s f (size_type n t) = size_at s (type_note t).number
value s f e = None

abbrev pub has_kind : Option IntKind → Bool
has_kind (Some k) = true
has_kind None = false

-- the value of an integer constant expression that is judged, if it is defined
abbrev pub constant : Symbols → Findings → ExprTree Counted → Option ℤ
constant s f e = if is_constant s e && has_kind (kind_of s f e) then value s f e else None
