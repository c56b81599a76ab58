-- Which tree is read, with its spots: a token's column is its number.
use Rattle.std.proofs.Common.{◌≡◌, refl, ℕ, List, [], ◌∷◌, Some, codes, pos}
use Rattle.cc_arith.specs.declared.kind.IntKind.TheVariants as kind
use Rattle.cc_arith.specs.declared.binary_operator.IntOp.TheVariants as int
use Rattle.cc_arith.specs.declared.unary_operator.IntUnary.TheVariants as int_unary
use Rattle.cc_lex.specs.Meanings.{meaning, word}
use Rattle.cc_lex.specs.Spellings.{keywords, puncts}
use Rattle.cc_base.specs.declared.place.Spot.{Spot}
use Rattle.cc_tree.specs.Trees as trees
use Rattle.cc_tree.specs.declared.operator.UnaryOp.TheVariants as the_unary
use Rattle.cc_tree.specs.declared.operator.BinaryOp.TheVariants as the_binary
use Rattle.cc_tree.specs.declared.operator.AssignOp.TheVariants as the_assign
use Rattle.cc_tree.specs.declared.operator.StepOp.TheVariants as the_step
use Rattle.cc_tree.specs.declared.operator.Side.TheVariants as side
use Rattle.cc_tree.specs.declared.operator.SpecWord.TheVariants as the_spec_word
use Rattle.cc_grammar.proofs.Texts.{at, expr_of, declarator_of, stmt_of}

abbrev n : ℕ → List ℕ → trees.ExprTree Spot
n column x = trees.name (at column) x

abbrev i : ℕ → ℕ → trees.ExprTree Spot
i column v = trees.integer (at column) (pos v) kind.Int

-- the typedef name T, and the type `int`
abbrev type_t : ℕ → trees.TypeTree Spot
type_t column = trees.type_name (at column) (trees.more_specs (trees.named (at column) (codes "T")) trees.no_specs) trees.nameless

abbrev type_int : ℕ → trees.TypeTree Spot
type_int column = trees.type_name (at column) (trees.more_specs (trees.word (at column) the_spec_word.Int) trees.no_specs) trees.nameless

-- to the right
assignments : expr_of [] (codes "a = b = c") ≡ Some (trees.assign (at 2) the_assign.Plain (n 1 (codes "a")) (trees.assign (at 4) the_assign.Plain (n 3 (codes "b")) (n 5 (codes "c"))))
unfolding meaning word keywords puncts
assignments = refl

-- to the left
differences : expr_of [] (codes "a - b - c") ≡ Some (trees.binary (at 4) (the_binary.Int int.Sub) (trees.binary (at 2) (the_binary.Int int.Sub) (n 1 (codes "a")) (n 3 (codes "b"))) (n 5 (codes "c")))
unfolding meaning word keywords puncts
differences = refl

-- by level
levels : expr_of [] (codes "a || b && c + d * e") ≡ Some (trees.binary (at 2) the_binary.OrOr (n 1 (codes "a")) (trees.binary (at 4) the_binary.AndAnd (n 3 (codes "b")) (trees.binary (at 6) (the_binary.Int int.Add) (n 5 (codes "c")) (trees.binary (at 8) (the_binary.Int int.Mul) (n 7 (codes "d")) (n 9 (codes "e"))))))
unfolding meaning word keywords puncts
levels = refl

-- to the right, and anything in the middle
choices : expr_of [] (codes "a ? b , c : d ? e : f") ≡ Some (trees.choice (at 2) (n 1 (codes "a")) (trees.comma (at 4) (n 3 (codes "b")) (n 5 (codes "c"))) (trees.choice (at 8) (n 7 (codes "d")) (n 9 (codes "e")) (n 11 (codes "f"))))
unfolding meaning word keywords puncts
choices = refl

-- a postfix form before a prefix form
postfix_first : expr_of [] (codes "- a ++") ≡ Some (trees.unary (at 1) (the_unary.Int int_unary.Minus) (trees.step (at 3) the_step.Increment side.After (n 2 (codes "a"))))
unfolding meaning word keywords puncts
postfix_first = refl

-- the step of the pointer
steps : expr_of [] (codes "* p ++") ≡ Some (trees.unary (at 1) the_unary.Deref (trees.step (at 3) the_step.Increment side.After (n 2 (codes "p"))))
unfolding meaning word keywords puncts
steps = refl

-- members and subscripts before `&`
addresses : expr_of [] (codes "& a [ 1 ] . m") ≡ Some (trees.unary (at 1) the_unary.Address (trees.member (at 6) (trees.index (at 3) (n 2 (codes "a")) (i 4 1)) (codes "m")))
unfolding meaning word keywords puncts
addresses = refl

-- the place of a call is its first token
calls : expr_of [] (codes "p -> m ( 1 , 2 )") ≡ Some (trees.call (at 1) (trees.arrow (at 2) (n 1 (codes "p")) (codes "m")) (trees.more_exprs (i 5 1) (trees.more_exprs (i 7 2) trees.no_exprs)))
unfolding meaning word keywords puncts
calls = refl

-- a typedef name in parentheses
casts : expr_of (codes "T" ∷ []) (codes "( T ) x") ≡ Some (trees.cast (at 1) (type_t 2) (n 4 (codes "x")))
unfolding meaning word keywords puncts
casts = refl

-- one before parentheses
casts_of_parentheses : expr_of (codes "T" ∷ []) (codes "( T ) ( x )") ≡ Some (trees.cast (at 1) (type_t 2) (trees.paren (at 4) (n 5 (codes "x"))))
unfolding meaning word keywords puncts
casts_of_parentheses = refl

-- another name in parentheses
calls_in_parentheses : expr_of [] (codes "( x ) ( y )") ≡ Some (trees.call (at 1) (trees.paren (at 1) (n 2 (codes "x"))) (trees.more_exprs (n 5 (codes "y")) trees.no_exprs))
unfolding meaning word keywords puncts
calls_in_parentheses = refl

-- a type
sizes_of_types : expr_of [] (codes "sizeof ( int ) + 1") ≡ Some (trees.binary (at 5) (the_binary.Int int.Add) (trees.size_type (at 1) (type_int 3)) (i 6 1))
unfolding meaning word keywords puncts
sizes_of_types = refl

-- an expression in parentheses
sizes_of_parentheses : expr_of [] (codes "sizeof ( x )") ≡ Some (trees.size_expr (at 1) (trees.paren (at 2) (n 3 (codes "x"))))
unfolding meaning word keywords puncts
sizes_of_parentheses = refl

-- a postfix form under `sizeof`
sizes_of_elements : expr_of [] (codes "sizeof x [ 1 ]") ≡ Some (trees.size_expr (at 1) (trees.index (at 3) (n 2 (codes "x")) (i 4 1)))
unfolding meaning word keywords puncts
sizes_of_elements = refl

-- a cast before `*`
casts_bind_tighter : expr_of (codes "T" ∷ []) (codes "( T ) x * y") ≡ Some (trees.binary (at 5) (the_binary.Int int.Mul) (trees.cast (at 1) (type_t 2) (n 4 (codes "x"))) (n 6 (codes "y")))
unfolding meaning word keywords puncts
casts_bind_tighter = refl

-- string literals side by side
strings : expr_of [] (codes "\"ab\" \"c\"") ≡ Some (trees.string (at 1) (codes "ab" ∷ codes "c" ∷ []))
unfolding meaning word keywords puncts
strings = refl

-- an array of pointers to functions: each form has the name's spot
pointers_to_functions : declarator_of (codes "( * f [ 3 ] ) ( void )") ≡ Some (trees.function (at 3) (trees.grouped (at 3) (trees.pointer (at 3) 0 (trees.array (at 3) (trees.declared (at 3) (codes "f")) (trees.an_expr (i 5 3))))) (trees.more_types (trees.type_name (at 9) (trees.more_specs (trees.word (at 9) the_spec_word.Void) trees.no_specs) trees.nameless) trees.no_types))
unfolding meaning word keywords puncts
pointers_to_functions = refl

-- without a name, the first token
abstract_functions : declarator_of (codes "( * ) ( int )") ≡ Some (trees.function (at 1) (trees.grouped (at 1) (trees.pointer (at 2) 0 trees.nameless)) (trees.more_types (type_int 5) trees.no_types))
unfolding meaning word keywords puncts
abstract_functions = refl

-- no length, and one
abstract_arrays : declarator_of (codes "[ ] [ 2 ]") ≡ Some (trees.array (at 1) (trees.array (at 1) trees.nameless trees.no_expr) (trees.an_expr (i 4 2)))
unfolding meaning word keywords puncts
abstract_arrays = refl

-- constants behind a star
const_pointers : declarator_of (codes "* const * p") ≡ Some (trees.pointer (at 4) 1 (trees.pointer (at 4) 0 (trees.declared (at 4) (codes "p"))))
unfolding meaning word keywords puncts
const_pointers = refl

-- an `else` belongs to the nearest `if`
else_of_the_nearest : stmt_of (codes "if ( a ) if ( b ) c ; else d ;") ≡ Some (trees.if_then (at 1) (n 3 (codes "a")) (trees.if_else (at 5) (n 7 (codes "b")) (trees.plain (at 9) (n 9 (codes "c"))) (trees.plain (at 12) (n 12 (codes "d")))))
unfolding meaning word keywords puncts
else_of_the_nearest = refl
