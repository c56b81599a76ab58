-- What may follow an expression.
use Rattle.std.proofs.Common.{◌≤◌, ◌<◌, ◌+◌, ℕ, true, List, [], ◌∷◌, length, arith}
use Rattle.cc_base.specs.declared.place.Spot.{Spot}
use Rattle.cc_arith.specs.declared.binary_operator.IntOp.{IntOp}
use Rattle.cc_arith.specs.declared.binary_operator.IntOp.TheVariants as int
use Rattle.cc_lex.specs.declared.token.Token.{Token}
use Rattle.cc_tree.specs.declared.operator.BinaryOp.{BinaryOp}
use Rattle.cc_tree.specs.declared.operator.BinaryOp.TheVariants as the_binary
use Rattle.cc_tree.specs.declared.operator.Side.TheVariants as side
use Rattle.cc_tree.specs.Trees.{ExprTree, name, integer, character, string, paren, unary, binary, assign, step, choice, comma, call, member, arrow, index, cast, size_expr, size_type}
use Rattle.cc_grammar.specs.Levels.{level, binary_level, int_level}
use Rattle.cc_grammar.specs.Names.{Names}
use Rattle.cc_grammar.specs.Outlines as outlines
use Rattle.cc_grammar.specs.Classes.{Tail, goes_binary, goes_assign, goes_question, goes_comma, goes_call, goes_index, goes_dot, goes_arrow, goes_step, ends_here, tail, binds}
use Rattle.cc_parse_laws.proofs.Spans.{Reads}
use Rattle.cc_parse_laws.proofs.Steps.{reads_length}
use Rattle.cc_parse_laws.proofs.Firsts.{op_most, inside_sinks}
use Rattle.cc_parse_laws.proofs.Inner.{Ends, ReadsExpr}

-- a token that binds less than this may follow the tree
abbrev pub edge : ExprTree Spot → ℕ
edge (name n x) = 17
edge (integer n v c) = 17
edge (character n v) = 17
edge (string n ss) = 17
edge (paren n e) = 17
edge (unary n op e) = 16
edge (binary n op a b) = binary_level op + 1
edge (assign n op a b) = 2
edge (step n op side.Before e) = 16
edge (step n op side.After e) = 17
edge (choice n c a b) = 3
edge (comma n a b) = 2
edge (call n f es) = 17
edge (member n e x) = 17
edge (arrow n e x) = 17
edge (index n a i) = 17
edge (cast n t e) = 16
edge (size_expr n e) = 16
edge (size_type n t) = 17

int_least : (op : IntOp) → 4 ≤ int_level op
int_least int.Or = omega arith
int_least int.Xor = omega arith
int_least int.And = omega arith
int_least int.Eq = omega arith
int_least int.Ne = omega arith
int_least int.Lt = omega arith
int_least int.Le = omega arith
int_least int.Gt = omega arith
int_least int.Ge = omega arith
int_least int.Shl = omega arith
int_least int.Shr = omega arith
int_least int.Add = omega arith
int_least int.Sub = omega arith
int_least int.Mul = omega arith
int_least int.Div = omega arith
int_least int.Rem = omega arith

pub op_least : (op : BinaryOp) → 4 ≤ binary_level op
op_least the_binary.OrOr = omega arith
op_least the_binary.AndAnd = omega arith
op_least (the_binary.Int op) = int_least op

-- an operator of a level up to 13 may follow what is of that level or above
pub edge_above : (n : ℕ) (e : ExprTree Spot) → 4 ≤ n → n ≤ 13 → n ≤ level e → n < edge e
edge_above n (name m x) a b c = omega arith
edge_above n (integer m v k) a b c = omega arith
edge_above n (character m v) a b c = omega arith
edge_above n (string m ss) a b c = omega arith
edge_above n (paren m e) a b c = omega arith
edge_above n (unary m op e) a b c = omega arith
edge_above n (binary m op l r) a b c = omega arith
edge_above n (assign m op l r) a b c = omega arith
edge_above n (step m op side.Before e) a b c = omega arith
edge_above n (step m op side.After e) a b c = omega arith
edge_above n (choice m l r e) a b c = omega arith
edge_above n (comma m l r) a b c = omega arith
edge_above n (call m f es) a b c = omega arith
edge_above n (member m e x) a b c = omega arith
edge_above n (arrow m e x) a b c = omega arith
edge_above n (index m l i) a b c = omega arith
edge_above n (cast m t e) a b c = omega arith
edge_above n (size_expr m e) a b c = omega arith
edge_above n (size_type m t) a b c = omega arith

pub edge_postfix : (e : ExprTree Spot) → 16 ≤ level e → 16 < edge e
edge_postfix (name m x) c = omega arith
edge_postfix (integer m v k) c = omega arith
edge_postfix (character m v) c = omega arith
edge_postfix (string m ss) c = omega arith
edge_postfix (paren m e) c = omega arith
edge_postfix (unary m op e) c = omega arith
edge_postfix (binary m op l r) c = omega (arith, op_most op)
edge_postfix (assign m op l r) c = omega arith
edge_postfix (step m op side.Before e) c = omega arith
edge_postfix (step m op side.After e) c = omega arith
edge_postfix (choice m l r e) c = omega arith
edge_postfix (comma m l r) c = omega arith
edge_postfix (call m f es) c = omega arith
edge_postfix (member m e x) c = omega arith
edge_postfix (arrow m e x) c = omega arith
edge_postfix (index m l i) c = omega arith
edge_postfix (cast m t e) c = omega arith
edge_postfix (size_expr m e) c = omega arith
edge_postfix (size_type m t) c = omega arith

-- a comma may follow any, and what ends a level any of that level
pub edge_least : (e : ExprTree Spot) → (1 < edge e) × (level e ≤ edge e)
edge_least (name m x) = (omega arith, omega arith)
edge_least (integer m v k) = (omega arith, omega arith)
edge_least (character m v) = (omega arith, omega arith)
edge_least (string m ss) = (omega arith, omega arith)
edge_least (paren m e) = (omega arith, omega arith)
edge_least (unary m op e) = (omega arith, omega arith)
edge_least (binary m op l r) = (omega (arith, op_least op), omega arith)
edge_least (assign m op l r) = (omega arith, omega arith)
edge_least (step m op side.Before e) = (omega arith, omega arith)
edge_least (step m op side.After e) = (omega arith, omega arith)
edge_least (choice m l r e) = (omega arith, omega arith)
edge_least (comma m l r) = (omega arith, omega arith)
edge_least (call m f es) = (omega arith, omega arith)
edge_least (member m e x) = (omega arith, omega arith)
edge_least (arrow m e x) = (omega arith, omega arith)
edge_least (index m l i) = (omega arith, omega arith)
edge_least (cast m t e) = (omega arith, omega arith)
edge_least (size_expr m e) = (omega arith, omega arith)
edge_least (size_type m t) = (omega arith, omega arith)

pub ends_more : (m n : ℕ) (r : List Token) → m ≤ n → Ends m r → Ends n r
ends_more m n r h e = record { looser = omega (arith, h, e.looser); no_literal = e.no_literal }

-- no token binds as a cast or a prefix form
no_prefix : (t : Tail) → binds t < 16 → binds t < 14
no_prefix (goes_binary op) h = omega (arith, op_most op)
no_prefix (goes_assign op) h = omega arith
no_prefix goes_question h = omega arith
no_prefix goes_comma h = omega arith
no_prefix goes_call h = omega (arith, h)
no_prefix goes_index h = omega (arith, h)
no_prefix goes_dot h = omega (arith, h)
no_prefix goes_arrow h = omega (arith, h)
no_prefix (goes_step op) h = omega (arith, h)
no_prefix ends_here h = omega arith

pub ends_prefix : (r : List Token) → Ends 16 r → Ends 14 r
ends_prefix r e = record { looser = no_prefix (tail r) e.looser; no_literal = e.no_literal }

-- An expression has a token.
pub expr_shorter : (names : Names) (e : ExprTree Spot) (d : ℕ) (ts r : List Token) → Reads (outlines.expr names e) d ts r → length r < length ts
expr_shorter names (name n x) d ts r y = omega (arith, reads_length (outlines.expr names (name n x)) d ts r y)
expr_shorter names (integer n v c) d ts r y = omega (arith, reads_length (outlines.expr names (integer n v c)) d ts r y)
expr_shorter names (character n v) d ts r y = omega (arith, reads_length (outlines.expr names (character n v)) d ts r y)
expr_shorter names (string n []) d ts r y = absurd y.1
expr_shorter names (string n (b ∷ bs)) d ts r y = omega (arith, reads_length (outlines.expr names (string n (b ∷ bs))) d ts r y)
expr_shorter names (paren n e) d ts r y = omega (arith, reads_length (outlines.expr names (paren n e)) d ts r y)
expr_shorter names (unary n op e) d ts r y = omega (arith, reads_length (outlines.expr names (unary n op e)) d ts r y)
expr_shorter names (binary n op a b) d ts r y = omega (arith, reads_length (outlines.expr names (binary n op a b)) d ts r y)
expr_shorter names (assign n op a b) d ts r y = omega (arith, reads_length (outlines.expr names (assign n op a b)) d ts r y)
expr_shorter names (step n op side.Before e) d ts r y = omega (arith, reads_length (outlines.expr names (step n op side.Before e)) d ts r y)
expr_shorter names (step n op side.After e) d ts r y = omega (arith, reads_length (outlines.expr names (step n op side.After e)) d ts r y)
expr_shorter names (choice n c a b) d ts r y = omega (arith, reads_length (outlines.expr names (choice n c a b)) d ts r y)
expr_shorter names (comma n a b) d ts r y = omega (arith, reads_length (outlines.expr names (comma n a b)) d ts r y)
expr_shorter names (call n f es) d ts r y = omega (arith, reads_length (outlines.expr names (call n f es)) d ts r y)
expr_shorter names (member n e x) d ts r y = omega (arith, reads_length (outlines.expr names (member n e x)) d ts r y)
expr_shorter names (arrow n e x) d ts r y = omega (arith, reads_length (outlines.expr names (arrow n e x)) d ts r y)
expr_shorter names (index n a i) d ts r y = omega (arith, reads_length (outlines.expr names (index n a i)) d ts r y)
expr_shorter names (cast n t e) d ts r y = omega (arith, reads_length (outlines.expr names (cast n t e)) d ts r y)
expr_shorter names (size_expr n e) d ts r y = omega (arith, reads_length (outlines.expr names (size_expr n e)) d ts r y)
expr_shorter names (size_type n t) d ts r y = omega (arith, reads_length (outlines.expr names (size_type n t)) d ts r y)

pub operand_shorter : (names : Names) (e : ExprTree Spot) (d : ℕ) (ts r : List Token) → ReadsExpr names d e ts r → length r < length ts
operand_shorter names e d ts r y = expr_shorter names e d ts r (inside_sinks true (outlines.expr names e) d ts r y)
