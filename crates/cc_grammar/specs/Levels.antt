-- How tightly an expression holds together (C17 6.5), and with which tokens operators and specifiers are written.
use Rattle.std.specs.Prelude.{ℕ}
use Rattle.cc_arith.specs.declared.binary_operator.IntOp.{IntOp}
use Rattle.cc_arith.specs.declared.binary_operator.IntOp.TheVariants as int
use Rattle.cc_arith.specs.declared.unary_operator.IntUnary.TheVariants as int_unary
use Rattle.cc_lex.specs.declared.keyword.Keyword.{Keyword}
use Rattle.cc_lex.specs.declared.keyword.Keyword.TheVariants as the_keyword
use Rattle.cc_lex.specs.declared.punct.Punct.{Punct}
use Rattle.cc_lex.specs.declared.punct.Punct.TheVariants as the_punct
use Rattle.cc_tree.specs.Trees.{ExprTree, name, integer, character, string, paren, unary, binary, assign, step, choice, comma, call, member, arrow, index, cast, size_expr, size_type}
use Rattle.cc_tree.specs.declared.operator.UnaryOp.{UnaryOp}
use Rattle.cc_tree.specs.declared.operator.UnaryOp.TheVariants as the_unary
use Rattle.cc_tree.specs.declared.operator.BinaryOp.{BinaryOp}
use Rattle.cc_tree.specs.declared.operator.BinaryOp.TheVariants as the_binary
use Rattle.cc_tree.specs.declared.operator.AssignOp.{AssignOp}
use Rattle.cc_tree.specs.declared.operator.AssignOp.TheVariants as the_assign
use Rattle.cc_tree.specs.declared.operator.StepOp.{StepOp}
use Rattle.cc_tree.specs.declared.operator.StepOp.TheVariants as the_step
use Rattle.cc_tree.specs.declared.operator.Side.TheVariants as side
use Rattle.cc_tree.specs.declared.operator.SpecWord.{SpecWord}
use Rattle.cc_tree.specs.declared.operator.SpecWord.TheVariants as the_spec_word

-- C17 6.5.5 to 6.5.14, from the loosest
abbrev pub int_level : IntOp → ℕ
int_level int.Or = 6
int_level int.Xor = 7
int_level int.And = 8
int_level int.Eq = 9
int_level int.Ne = 9
int_level int.Lt = 10
int_level int.Le = 10
int_level int.Gt = 10
int_level int.Ge = 10
int_level int.Shl = 11
int_level int.Shr = 11
int_level int.Add = 12
int_level int.Sub = 12
int_level int.Mul = 13
int_level int.Div = 13
int_level int.Rem = 13

abbrev pub binary_level : BinaryOp → ℕ
binary_level the_binary.OrOr = 4
binary_level the_binary.AndAnd = 5
binary_level (the_binary.Int op) = int_level op

-- 1 a comma expression, 2 an assignment, 3 a conditional, 4 to 13 a binary one, 14 a cast, 15 a prefix form, 16 a postfix
-- form or a primary
abbrev pub level : {N : Type 0} → ExprTree N → ℕ
level (name n x) = 16
level (integer n v kind) = 16
level (character n v) = 16
level (string n ss) = 16
level (paren n e) = 16
level (unary n op e) = 15
level (binary n op l r) = binary_level op
level (assign n op l r) = 2
level (step n op side.Before e) = 15
level (step n op side.After e) = 16
level (choice n c l r) = 3
level (comma n l r) = 1
level (call n f es) = 16
level (member n e x) = 16
level (arrow n e x) = 16
level (index n l i) = 16
level (cast n t e) = 14
level (size_expr n e) = 15
level (size_type n t) = 15

-- ---- Tokens

abbrev pub unary_punct : UnaryOp → Punct
unary_punct the_unary.Address = the_punct.And
unary_punct the_unary.Deref = the_punct.Star
unary_punct (the_unary.Int int_unary.Plus) = the_punct.Plus
unary_punct (the_unary.Int int_unary.Minus) = the_punct.Minus
unary_punct (the_unary.Int int_unary.Invert) = the_punct.Tilde
unary_punct (the_unary.Int int_unary.Not) = the_punct.Not

abbrev pub step_punct : StepOp → Punct
step_punct the_step.Increment = the_punct.PlusPlus
step_punct the_step.Decrement = the_punct.MinusMinus

abbrev pub int_punct : IntOp → Punct
int_punct int.Add = the_punct.Plus
int_punct int.Sub = the_punct.Minus
int_punct int.Mul = the_punct.Star
int_punct int.Div = the_punct.Slash
int_punct int.Rem = the_punct.Percent
int_punct int.And = the_punct.And
int_punct int.Or = the_punct.Or
int_punct int.Xor = the_punct.Caret
int_punct int.Shl = the_punct.ShiftLeft
int_punct int.Shr = the_punct.ShiftRight
int_punct int.Lt = the_punct.Less
int_punct int.Le = the_punct.LessEqual
int_punct int.Gt = the_punct.Greater
int_punct int.Ge = the_punct.GreaterEqual
int_punct int.Eq = the_punct.EqualEqual
int_punct int.Ne = the_punct.NotEqual

abbrev pub binary_punct : BinaryOp → Punct
binary_punct the_binary.OrOr = the_punct.OrOr
binary_punct the_binary.AndAnd = the_punct.AndAnd
binary_punct (the_binary.Int op) = int_punct op

abbrev pub assign_punct : AssignOp → Punct
assign_punct the_assign.Plain = the_punct.Equal
assign_punct the_assign.Mul = the_punct.StarEqual
assign_punct the_assign.Div = the_punct.SlashEqual
assign_punct the_assign.Rem = the_punct.PercentEqual
assign_punct the_assign.Add = the_punct.PlusEqual
assign_punct the_assign.Sub = the_punct.MinusEqual
assign_punct the_assign.Shl = the_punct.ShiftLeftEqual
assign_punct the_assign.Shr = the_punct.ShiftRightEqual
assign_punct the_assign.And = the_punct.AndEqual
assign_punct the_assign.Xor = the_punct.CaretEqual
assign_punct the_assign.Or = the_punct.OrEqual

abbrev pub word_keyword : SpecWord → Keyword
word_keyword the_spec_word.Typedef = the_keyword.Typedef
word_keyword the_spec_word.Extern = the_keyword.Extern
word_keyword the_spec_word.Static = the_keyword.Static
word_keyword the_spec_word.Inline = the_keyword.Inline
word_keyword the_spec_word.Const = the_keyword.Const
word_keyword the_spec_word.Void = the_keyword.Void
word_keyword the_spec_word.Char = the_keyword.Char
word_keyword the_spec_word.Short = the_keyword.Short
word_keyword the_spec_word.Int = the_keyword.Int
word_keyword the_spec_word.Long = the_keyword.Long
word_keyword the_spec_word.Signed = the_keyword.Signed
word_keyword the_spec_word.Unsigned = the_keyword.Unsigned
word_keyword the_spec_word.Bool = the_keyword.Bool
