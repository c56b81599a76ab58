-- The types of expressions, and what is found in them.
use Rattle.std.specs.Prelude.{ℕ, ◌+◌, ◌-◌, ◌^◌, min, List, [], ◌∷◌, length, Option}
use Rattle.cc_arith.specs.declared.kind.IntKind.TheVariants.{Int as IntK}
use Rattle.cc_tree.specs.Trees.{ExprTree, name, integer, character, string, paren, unary, binary, assign, step, choice, comma, call, member, arrow, index, cast, size_expr, size_type, ExprTrees, no_exprs, more_exprs}
use Rattle.cc_tree_notes.specs.declared.note.Counted.{Counted}
use Rattle.cc_tree_walks.specs.Notes.{expr_note, type_note}
use Rattle.cc_symbols.specs.declared.findings.Findings.{Findings}
use Rattle.cc_symbols.specs.declared.symbols.Symbols.{Symbols}
use Rattle.cc_types.specs.declared.expr_type.ExprType.{ExprType}
use Rattle.cc_judging.specs.declared.judged.Judged.{Judged}
use Rattle.cc_judging.specs.declared.calls.Passing.{Passing}
use Rattle.cc_judging.specs.declared.members.Selection.{Selection}
use Rattle.cc_judging.specs.Judging.{kind_of, typed_integer}
use Rattle.cc_judging.specs.Leaves.{name_judged, string_judged, paren_judged}
use Rattle.cc_judging.specs.Prefixes.{unary_judged}
use Rattle.cc_judging.specs.Arithmetic.{binary_judged}
use Rattle.cc_judging.specs.Assignments.{assign_judged, step_judged}
use Rattle.cc_judging.specs.Choices.{choice_judged, comma_judged}
use Rattle.cc_judging.specs.Calls.{called, parameter, pass_one, call_judged}
use Rattle.cc_judging.specs.Members.{member_judged, arrow_judged, index_judged}
use Rattle.cc_judging.specs.Casts.{cast_judged, size_judged}
use Rattle.cc_typing.specs.LookUps.{declaration_at, kind_at, type_at}
use Rattle.cc_typing.specs.Forms.{is_null, is_place, makes_null}
use Rattle.cc_typing.specs.Noting.{alone, with_first, with_both, settled, member_settled}
use Rattle.cc_typing.specs.Checks.{fit_checked}

-- No number of bytes is above 2 ^ 64 - 1: what is above it counts as that many.
abbrev pub bytes_from : ℕ → List (List ℕ) → ℕ
bytes_from n [] = n
bytes_from n (b ∷ bs) = bytes_from (min (n + length b) (2 ^ 64 - 1)) bs

-- the bytes of string literals that stand side by side, and the zero behind them
abbrev pub string_length : List (List ℕ) → ℕ
string_length bs = bytes_from 1 bs

-- what is said of a node
abbrev mutual
  pub judged : Symbols → ExprTree Counted → Judged
  judged s (name n x) = name_judged s.types (declaration_at s n.number)
  judged s (integer n v k) = typed_integer k
  judged s (character n v) = typed_integer IntK
  judged s (string n bs) = string_judged (string_length bs)
  judged s (paren n e) = paren_judged (kind_of (judged s e))
  judged s (unary n op e) = unary_judged s.types s.structs op (is_place s e) (kind_of (judged s e))
  judged s (binary n op a b) = binary_judged s.types op (kind_of (judged s a)) (is_null s a) (kind_of (judged s b)) (is_null s b)
  judged s (assign n op a b) = assign_judged s.types s.structs op (is_place s a) (kind_of (judged s a)) (kind_of (judged s b)) (is_null s b)
  judged s (step n op side e) = step_judged s.types (is_place s e) (kind_of (judged s e))
  judged s (choice n c a b) = choice_judged s.types (kind_of (judged s c)) (kind_of (judged s a)) (is_null s a) (kind_of (judged s b)) (is_null s b)
  judged s (comma n a b) = comma_judged s.types (kind_of (judged s a)) (kind_of (judged s b))
  judged s (call n f es) = call_judged s.types (passed s (called s.types (kind_of (judged s f))) es)
  judged s (member n e x) = (member_judged s.types s.structs (kind_of (judged s e)) x).judged
  judged s (arrow n e x) = (arrow_judged s.types s.structs (kind_of (judged s e)) x).judged
  judged s (index n a i) = index_judged s.types s.structs (kind_of (judged s a)) (kind_of (judged s i))
  judged s (cast n t e) = cast_judged s.types (kind_at s (type_note t).number) (makes_null s (type_note t).number e) (kind_of (judged s e))
  judged s (size_expr n e) = size_judged s.types s.structs (kind_of (judged s e))
  judged s (size_type n t) = size_judged s.types s.structs (type_at s (type_note t).number)

  -- a call after these arguments
  pub passed : Symbols → Passing → ExprTrees Counted → Passing
  passed s state no_exprs = state
  passed s state (more_exprs e es) = passed s (pass_one s.types state (kind_of (judged s e))) es

abbrev pub type_of : Symbols → ExprTree Counted → Option ExprType
type_of s e = kind_of (judged s e)

-- what is found once an expression is judged, where this was found before: parts come before the node
abbrev mutual
  pub noted : Symbols → ExprTree Counted → Findings → Findings
  noted s (name n x) f = settled n (alone n) (judged s (name n x)) f
  noted s (integer n v k) f = settled n (alone n) (judged s (integer n v k)) f
  noted s (character n v) f = settled n (alone n) (judged s (character n v)) f
  noted s (string n bs) f = settled n (alone n) (judged s (string n bs)) f
  noted s (paren n e) f = settled n (alone n) (judged s (paren n e)) (noted s e f)
  noted s (unary n op e) f = settled n (with_first n (expr_note e)) (judged s (unary n op e)) (noted s e f)
  noted s (binary n op a b) f = settled n (with_both n (expr_note a) (expr_note b)) (judged s (binary n op a b)) (noted s b (noted s a f))
  noted s (assign n op a b) f = settled n (with_both n (expr_note a) (expr_note b)) (judged s (assign n op a b)) (noted s b (noted s a f))
  noted s (step n op side e) f = settled n (alone n) (judged s (step n op side e)) (noted s e f)
  noted s (choice n c a b) f = settled n (with_first n (expr_note c)) (judged s (choice n c a b)) (noted s b (noted s a (noted s c f)))
  noted s (comma n a b) f = settled n (alone n) (judged s (comma n a b)) (noted s b (noted s a f))
  noted s (call n g es) f = settled n (alone n) (judged s (call n g es)) (all_noted s (called s.types (type_of s g)) es (noted s g f))
  noted s (member n e x) f = member_settled n (member_judged s.types s.structs (type_of s e) x) (noted s e f)
  noted s (arrow n e x) f = member_settled n (arrow_judged s.types s.structs (type_of s e) x) (noted s e f)
  noted s (index n a i) f = settled n (alone n) (judged s (index n a i)) (noted s i (noted s a f))
  noted s (cast n t e) f = settled n (alone n) (judged s (cast n t e)) (noted s e f)
  noted s (size_expr n e) f = settled n (alone n) (judged s (size_expr n e)) (noted s e f)
  noted s (size_type n t) f = settled n (alone n) (judged s (size_type n t)) f

  -- the arguments of a call, where it was judged so far
  pub all_noted : Symbols → Passing → ExprTrees Counted → Findings → Findings
  all_noted s state no_exprs f = f
  all_noted s state (more_exprs e es) f = all_noted s (pass_one s.types state (type_of s e)) es (fit_checked s (parameter s.types state) e (type_of s e) (noted s e f))
