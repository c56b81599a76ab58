-- The types of expressions in terms of types, where the names and the type names of a tree have these.
use Rattle.std.specs.Prelude.{ℕ, List, Option, option_map}
use Rattle.cc_tree.specs.Trees.{ExprTree, name, integer, character, string, paren, unary, binary, assign, step, choice, comma, call, member, arrow, index, cast, size_expr, size_type, ExprTrees, no_exprs, more_exprs}
use Rattle.cc_tree_notes.specs.declared.note.Counted.{Counted}
use Rattle.cc_tree_walks.specs.Notes.{type_note}
use Rattle.cc_arith.specs.declared.kind.IntKind.TheVariants.{Int as IntK}
use Rattle.cc_symbols.specs.declared.declared.Declared.{Declared}
use Rattle.cc_symbols.specs.declared.declared.Form.{Form}
use Rattle.cc_symbols.specs.declared.symbols.Symbols.{Symbols}
use Rattle.cc_types.specs.CTypes.{CTypeTree}
use Rattle.cc_types.specs.Shapes.{type_at, types_of}
use Rattle.cc_typing.specs.LookUps.{declaration_at, kind_at}
use Rattle.cc_typing.specs.Forms.{is_null, is_place, makes_null}
use Rattle.cc_typing.specs.Typing.{string_length}
use Rattle.cc_typing_laws.specs.Judgements.{Judgement, typed, type_part, an_integer}
use Rattle.cc_typing_laws.specs.Operators as operators
use Rattle.cc_typing_laws.specs.Postfix as postfix
use Rattle.cc_typing_laws.specs.Postfix.{Passed}

abbrev pub all_types : Symbols → List CTypeTree
all_types s = types_of s.types

-- the form and the type of a declaration
abbrev pub declared_type : Symbols → Declared → Form × Option CTypeTree
declared_type s d = (d.form, option_map (type_at (all_types s)) d.kind)

-- those of what the name of this number names
abbrev pub named_at : Symbols → ℕ → Option (Form × Option CTypeTree)
named_at s n = option_map (declared_type s) (declaration_at s n)

-- the type of the type name of this number
abbrev pub target_at : Symbols → ℕ → Option CTypeTree
target_at s n = option_map (type_at (all_types s)) (kind_at s n)

abbrev mutual
  pub judged : Symbols → ExprTree Counted → Judgement
  judged s (name n x) = postfix.name (named_at s n.number)
  judged s (integer n v k) = typed (an_integer k)
  judged s (character n v) = typed (an_integer IntK)
  judged s (string n bs) = postfix.string (string_length bs)
  judged s (paren n e) = postfix.of_type (type_part (judged s e))
  judged s (unary n op e) = operators.unary s.structs op (is_place s e) (type_part (judged s e))
  judged s (binary n op a b) = operators.binary op (type_part (judged s a)) (is_null s a) (type_part (judged s b)) (is_null s b)
  judged s (assign n op a b) = operators.assign s.structs op (is_place s a) (type_part (judged s a)) (type_part (judged s b)) (is_null s b)
  judged s (step n op side e) = operators.step (is_place s e) (type_part (judged s e))
  judged s (choice n c a b) = operators.choice (type_part (judged s c)) (type_part (judged s a)) (is_null s a) (type_part (judged s b)) (is_null s b)
  judged s (comma n a b) = operators.comma (type_part (judged s a)) (type_part (judged s b))
  judged s (call n f es) = postfix.call (passed s (postfix.called (type_part (judged s f))) es)
  judged s (member n e x) = (postfix.member (all_types s) s.structs (type_part (judged s e)) x).0
  judged s (arrow n e x) = (postfix.arrow (all_types s) s.structs (type_part (judged s e)) x).0
  judged s (index n a i) = postfix.index s.structs (type_part (judged s a)) (type_part (judged s i))
  judged s (cast n t e) = postfix.cast (target_at s (type_note t).number) (makes_null s (type_note t).number e) (type_part (judged s e))
  judged s (size_expr n e) = postfix.size s.structs (type_part (judged s e))
  judged s (size_type n t) = postfix.size s.structs (target_at s (type_note t).number)

  pub passed : Symbols → Passed → ExprTrees Counted → Passed
  passed s state no_exprs = state
  passed s state (more_exprs e es) = passed s (postfix.pass_one state (type_part (judged s e))) es
