-- What is found in an expression, as lists: the offences of its nodes, and their types. Parts come before the node.
use Rattle.std.specs.Prelude.{ℕ, List, [], ◌∷◌, ◌++◌, Option, Some, None, slice_set}
use Rattle.cc_tree.specs.Trees.{ExprTree, name, integer, character, string, paren, unary, binary, assign, step, choice, comma, call, member, arrow, index, cast, size_expr, size_type, ExprTrees, no_exprs, more_exprs}
use Rattle.cc_tree_notes.specs.declared.note.Counted.{Counted}
use Rattle.cc_tree_walks.specs.Notes.{expr_note}
use Rattle.cc_symbols.specs.declared.offence.Offence.{Offence}
use Rattle.cc_symbols.specs.declared.symbols.Symbols.{Symbols}
use Rattle.cc_symbols.specs.Offences.{lesser}
use Rattle.cc_types.specs.declared.expr_type.ExprType.{ExprType}
use Rattle.cc_types.specs.Asked.{value_in}
use Rattle.cc_types.specs.Structs.{fits_in}
use Rattle.cc_judging.specs.declared.calls.Passing.{Passing}
use Rattle.cc_judging.specs.Calls.{called, parameter, pass_one}
use Rattle.cc_typing.specs.Forms.{is_null}
use Rattle.cc_typing.specs.Noting.{alone, with_first, with_both, offence_of}
use Rattle.cc_typing.specs.Checks.{unless}
use Rattle.cc_typing.specs.Typing.{judged, type_of}

abbrev pub listed : Option Offence → List Offence
listed (Some o) = o ∷ []
listed None = []

-- an argument that doesn't fit its parameter, if there is one and both have types
abbrev pub misfits : Symbols → Option ExprType → ExprTree Counted → Option ExprType → List Offence
misfits s (Some target) e (Some t) =
    listed (unless (fits_in s.types s.structs (value_in s.types t) (is_null s e) target) (expr_note e).spot 38)
misfits s target e t = []

-- the offences in an expression
abbrev mutual
  pub offences : Symbols → ExprTree Counted → List Offence
  offences s (name n x) = listed (offence_of (alone n) (judged s (name n x)))
  offences s (integer n v k) = listed (offence_of (alone n) (judged s (integer n v k)))
  offences s (character n v) = listed (offence_of (alone n) (judged s (character n v)))
  offences s (string n bs) = listed (offence_of (alone n) (judged s (string n bs)))
  offences s (paren n e) = offences s e ++ listed (offence_of (alone n) (judged s (paren n e)))
  offences s (unary n op e) = offences s e ++ listed (offence_of (with_first n (expr_note e)) (judged s (unary n op e)))
  offences s (binary n op a b) = offences s a ++ offences s b ++ listed (offence_of (with_both n (expr_note a) (expr_note b)) (judged s (binary n op a b)))
  offences s (assign n op a b) = offences s a ++ offences s b ++ listed (offence_of (with_both n (expr_note a) (expr_note b)) (judged s (assign n op a b)))
  offences s (step n op side e) = offences s e ++ listed (offence_of (alone n) (judged s (step n op side e)))
  offences s (choice n c a b) = offences s c ++ offences s a ++ offences s b ++ listed (offence_of (with_first n (expr_note c)) (judged s (choice n c a b)))
  offences s (comma n a b) = offences s a ++ offences s b ++ listed (offence_of (alone n) (judged s (comma n a b)))
  offences s (call n g es) = offences s g ++ all_offences s (called s.types (type_of s g)) es ++ listed (offence_of (alone n) (judged s (call n g es)))
  offences s (member n e x) = offences s e ++ listed (offence_of (alone n) (judged s (member n e x)))
  offences s (arrow n e x) = offences s e ++ listed (offence_of (alone n) (judged s (arrow n e x)))
  offences s (index n a i) = offences s a ++ offences s i ++ listed (offence_of (alone n) (judged s (index n a i)))
  offences s (cast n t e) = offences s e ++ listed (offence_of (alone n) (judged s (cast n t e)))
  offences s (size_expr n e) = offences s e ++ listed (offence_of (alone n) (judged s (size_expr n e)))
  offences s (size_type n t) = listed (offence_of (alone n) (judged s (size_type n t)))

  -- those in and at the arguments of a call that was judged so far
  pub all_offences : Symbols → Passing → ExprTrees Counted → List Offence
  all_offences s state no_exprs = []
  all_offences s state (more_exprs e es) = offences s e ++ misfits s (parameter s.types state) e (type_of s e) ++ all_offences s (pass_one s.types state (type_of s e)) es

-- the least of an offence, if there is one, and these
abbrev pub least_of : Option Offence → List Offence → Option Offence
least_of o [] = o
least_of o (p ∷ ps) = least_of (lesser o (Some p)) ps

-- a node's number, and its type if it has one
abbrev pub Typed : Type 0
Typed = ℕ × Option ExprType

-- the types of the nodes of an expression
abbrev mutual
  pub typings : Symbols → ExprTree Counted → List Typed
  typings s (name n x) = (n.number, type_of s (name n x)) ∷ []
  typings s (integer n v k) = (n.number, type_of s (integer n v k)) ∷ []
  typings s (character n v) = (n.number, type_of s (character n v)) ∷ []
  typings s (string n bs) = (n.number, type_of s (string n bs)) ∷ []
  typings s (paren n e) = typings s e ++ (n.number, type_of s (paren n e)) ∷ []
  typings s (unary n op e) = typings s e ++ (n.number, type_of s (unary n op e)) ∷ []
  typings s (binary n op a b) = typings s a ++ typings s b ++ (n.number, type_of s (binary n op a b)) ∷ []
  typings s (assign n op a b) = typings s a ++ typings s b ++ (n.number, type_of s (assign n op a b)) ∷ []
  typings s (step n op side e) = typings s e ++ (n.number, type_of s (step n op side e)) ∷ []
  typings s (choice n c a b) = typings s c ++ typings s a ++ typings s b ++ (n.number, type_of s (choice n c a b)) ∷ []
  typings s (comma n a b) = typings s a ++ typings s b ++ (n.number, type_of s (comma n a b)) ∷ []
  typings s (call n g es) = typings s g ++ all_typings s es ++ (n.number, type_of s (call n g es)) ∷ []
  typings s (member n e x) = typings s e ++ (n.number, type_of s (member n e x)) ∷ []
  typings s (arrow n e x) = typings s e ++ (n.number, type_of s (arrow n e x)) ∷ []
  typings s (index n a i) = typings s a ++ typings s i ++ (n.number, type_of s (index n a i)) ∷ []
  typings s (cast n t e) = typings s e ++ (n.number, type_of s (cast n t e)) ∷ []
  typings s (size_expr n e) = typings s e ++ (n.number, type_of s (size_expr n e)) ∷ []
  typings s (size_type n t) = (n.number, type_of s (size_type n t)) ∷ []

  pub all_typings : Symbols → ExprTrees Counted → List Typed
  all_typings s no_exprs = []
  all_typings s (more_exprs e es) = typings s e ++ all_typings s es

-- the table after these types are put at their numbers
abbrev pub types_put : List (Option ExprType) → List Typed → List (Option ExprType)
types_put ts [] = ts
types_put ts (x ∷ xs) = types_put (slice_set ts x.0 x.1) xs
