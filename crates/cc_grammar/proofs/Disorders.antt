-- Trees that tokens spell, with each spot that a token fixes, and that are not orderly all the same: expressions and statements.
use Rattle.std.proofs.Common.{ℕ, ◌+◌, List, [], ◌∷◌, None, codes, arith, rules}
use Rattle.cc_arith.specs.declared.binary_operator.IntOp.TheVariants as int
use Rattle.cc_arith.specs.declared.unary_operator.IntUnary.TheVariants as int_unary
use Rattle.cc_base.specs.declared.place.Spot.{Spot}
use Rattle.cc_lex.specs.Meanings.{meaning, word}
use Rattle.cc_lex.specs.Spellings.{keywords, puncts}
use Rattle.cc_tree.specs.Trees as trees
use Rattle.cc_tree.specs.declared.operator.UnaryOp.TheVariants as the_unary
use Rattle.cc_tree.specs.declared.operator.BinaryOp.TheVariants as the_binary
use Rattle.cc_tree.specs.declared.operator.AssignOp.TheVariants as the_assign
use Rattle.cc_tree.specs.declared.operator.StepOp.TheVariants as the_step
use Rattle.cc_tree.specs.declared.operator.Side.TheVariants as side
use Rattle.cc_tree.specs.declared.operator.SpecWord.TheVariants as the_spec_word
use Rattle.cc_grammar.specs.Orderly.{Orderly}
use Rattle.cc_grammar.specs.Spells.{Spells}
use Rattle.cc_grammar.proofs.Texts.{tokens, at}

abbrev pub Disordered : List ℕ → List (trees.ExternalTree Spot) → Type 0
Disordered text f = Spells f (tokens text) × (Orderly f → ⊥)

abbrev pub n : ℕ → List ℕ → trees.ExprTree Spot
n column x = trees.name (at column) x

-- `void f ( ) {`, a statement and `}`
abbrev body_at : ℕ → trees.StmtTree Spot → trees.ExternalTree Spot
body_at column s =
    trees.definition (at (column + 1)) (trees.more_specs (trees.word (at column) the_spec_word.Void) trees.no_specs)
    (trees.function (at (column + 1)) (trees.declared (at (column + 1)) (codes "f")) trees.no_types)
    (trees.block (at (column + 4)) (trees.more_items (trees.does s) trees.no_items))

abbrev body : trees.StmtTree Spot → List (trees.ExternalTree Spot)
body s = body_at 1 s ∷ []

-- `typedef int T ;` before it
abbrev typed_body : trees.StmtTree Spot → List (trees.ExternalTree Spot)
typed_body s =
    trees.outer_declaration (trees.declaration (at 1) (trees.more_specs (trees.word (at 1) the_spec_word.Typedef) (trees.more_specs (trees.word (at 2) the_spec_word.Int) trees.no_specs)) (trees.init (trees.declared (at 3) (codes "T")) None ∷ []))
    ∷ body_at 5 s ∷ []

-- a binary operator takes no operator of its level on its right,
differences_to_the_right : Disordered (codes "void f ( ) { a - b - c ; }") (body (trees.plain (at 6) (trees.binary (at 7) (the_binary.Int int.Sub) (n 6 (codes "a")) (trees.binary (at 9) (the_binary.Int int.Sub) (n 8 (codes "b")) (n 10 (codes "c"))))))
unfolding meaning word keywords puncts
differences_to_the_right = (search rules, λ h. omega (arith, h))

-- and no looser one on its left
a_sum_in_a_product : Disordered (codes "void f ( ) { a + b * c ; }") (body (trees.plain (at 6) (trees.binary (at 9) (the_binary.Int int.Mul) (trees.binary (at 7) (the_binary.Int int.Add) (n 6 (codes "a")) (n 8 (codes "b"))) (n 10 (codes "c")))))
unfolding meaning word keywords puncts
a_sum_in_a_product = (search rules, λ h. omega (arith, h))

-- a prefix form stands before a cast or tighter
a_sum_under_a_sign : Disordered (codes "void f ( ) { - a + b ; }") (body (trees.plain (at 6) (trees.unary (at 6) (the_unary.Int int_unary.Minus) (trees.binary (at 8) (the_binary.Int int.Add) (n 7 (codes "a")) (n 9 (codes "b"))))))
unfolding meaning word keywords puncts
a_sum_under_a_sign = (search rules, λ h. omega (arith, h))

-- what is assigned to is a prefix form or tighter: no assignment,
assignments_to_the_left : Disordered (codes "void f ( ) { a = b = c ; }") (body (trees.plain (at 6) (trees.assign (at 9) the_assign.Plain (trees.assign (at 7) the_assign.Plain (n 6 (codes "a")) (n 8 (codes "b"))) (n 10 (codes "c")))))
unfolding meaning word keywords puncts
assignments_to_the_left = (search rules, λ h. omega (arith, h))

-- no choice
an_assigned_choice : Disordered (codes "void f ( ) { a ? b : c = d ; }") (body (trees.plain (at 6) (trees.assign (at 11) the_assign.Plain (trees.choice (at 7) (n 6 (codes "a")) (n 8 (codes "b")) (n 10 (codes "c"))) (n 12 (codes "d")))))
unfolding meaning word keywords puncts
an_assigned_choice = (search rules, λ h. omega (arith, h))

-- and no cast
an_assigned_cast : Disordered (codes "void f ( ) { ( int ) a = b ; }") (body (trees.plain (at 6) (trees.assign (at 10) the_assign.Plain (trees.cast (at 6) (trees.type_name (at 7) (trees.more_specs (trees.word (at 7) the_spec_word.Int) trees.no_specs) trees.nameless) (n 9 (codes "a"))) (n 11 (codes "b")))))
unfolding meaning word keywords puncts
an_assigned_cast = (search rules, λ h. omega (arith, h))

-- what is assigned is no comma expression
an_assigned_comma : Disordered (codes "void f ( ) { a = b , c ; }") (body (trees.plain (at 6) (trees.assign (at 7) the_assign.Plain (n 6 (codes "a")) (trees.comma (at 9) (n 8 (codes "b")) (n 10 (codes "c"))))))
unfolding meaning word keywords puncts
an_assigned_comma = (search rules, λ h. omega (arith, h))

-- `++` before a cast
a_step_of_a_cast : Disordered (codes "void f ( ) { ++ ( int ) a ; }") (body (trees.plain (at 6) (trees.step (at 6) the_step.Increment side.Before (trees.cast (at 7) (trees.type_name (at 8) (trees.more_specs (trees.word (at 8) the_spec_word.Int) trees.no_specs) trees.nameless) (n 10 (codes "a"))))))
unfolding meaning word keywords puncts
a_step_of_a_cast = (search rules, λ h. omega (arith, h))

-- `++` behind a prefix form
a_step_of_a_sign : Disordered (codes "void f ( ) { - a ++ ; }") (body (trees.plain (at 6) (trees.step (at 8) the_step.Increment side.After (trees.unary (at 6) (the_unary.Int int_unary.Minus) (n 7 (codes "a"))))))
unfolding meaning word keywords puncts
a_step_of_a_sign = (search rules, λ h. omega (arith, h))

-- a condition is no assignment
a_choice_by_an_assignment : Disordered (codes "void f ( ) { a = b ? c : d ; }") (body (trees.plain (at 6) (trees.choice (at 9) (trees.assign (at 7) the_assign.Plain (n 6 (codes "a")) (n 8 (codes "b"))) (n 10 (codes "c")) (n 12 (codes "d")))))
unfolding meaning word keywords puncts
a_choice_by_an_assignment = (search rules, λ h. omega (arith, h))

-- and no choice
choices_to_the_left : Disordered (codes "void f ( ) { a ? b : c ? d : e ; }") (body (trees.plain (at 6) (trees.choice (at 11) (trees.choice (at 7) (n 6 (codes "a")) (n 8 (codes "b")) (n 10 (codes "c"))) (n 12 (codes "d")) (n 14 (codes "e")))))
unfolding meaning word keywords puncts
choices_to_the_left = (search rules, λ h. omega (arith, h))

-- the last of a choice is no assignment
a_choice_of_an_assignment : Disordered (codes "void f ( ) { a ? b : c = d ; }") (body (trees.plain (at 6) (trees.choice (at 7) (n 6 (codes "a")) (n 8 (codes "b")) (trees.assign (at 11) the_assign.Plain (n 10 (codes "c")) (n 12 (codes "d"))))))
unfolding meaning word keywords puncts
a_choice_of_an_assignment = (search rules, λ h. omega (arith, h))

-- a comma expression takes none on its right
commas_to_the_right : Disordered (codes "void f ( ) { a , b , c ; }") (body (trees.plain (at 6) (trees.comma (at 7) (n 6 (codes "a")) (trees.comma (at 9) (n 8 (codes "b")) (n 10 (codes "c"))))))
unfolding meaning word keywords puncts
commas_to_the_right = (search rules, λ h. omega (arith, h))

-- a call of a prefix form
a_call_of_a_sign : Disordered (codes "void f ( ) { - a ( ) ; }") (body (trees.plain (at 6) (trees.call (at 6) (trees.unary (at 6) (the_unary.Int int_unary.Minus) (n 7 (codes "a"))) trees.no_exprs)))
unfolding meaning word keywords puncts
a_call_of_a_sign = (search rules, λ h. omega (arith, h))

-- a first argument is no comma expression,
a_call_with_a_comma : Disordered (codes "void f ( ) { a ( b , c ) ; }") (body (trees.plain (at 6) (trees.call (at 6) (n 6 (codes "a")) (trees.more_exprs (trees.comma (at 9) (n 8 (codes "b")) (n 10 (codes "c"))) trees.no_exprs))))
unfolding meaning word keywords puncts
a_call_with_a_comma = (search rules, λ h. omega (arith, h))

-- and no other is one
a_call_with_a_late_comma : Disordered (codes "void f ( ) { a ( b , c , d ) ; }") (body (trees.plain (at 6) (trees.call (at 6) (n 6 (codes "a")) (trees.more_exprs (n 8 (codes "b")) (trees.more_exprs (trees.comma (at 11) (n 10 (codes "c")) (n 12 (codes "d"))) trees.no_exprs)))))
unfolding meaning word keywords puncts
a_call_with_a_late_comma = (search rules, λ h. omega (arith, h))

-- a call stands where its designator begins
a_call_at_its_parenthesis : Disordered (codes "void f ( ) { a + b ( ) ; }") (body (trees.plain (at 6) (trees.binary (at 7) (the_binary.Int int.Add) (n 6 (codes "a")) (trees.call (at 9) (n 8 (codes "b")) trees.no_exprs))))
unfolding meaning word keywords puncts
a_call_at_its_parenthesis = (search rules, λ h. grind (arith, h))

-- a member of a prefix form
a_member_of_a_sign : Disordered (codes "void f ( ) { - a . b ; }") (body (trees.plain (at 6) (trees.member (at 8) (trees.unary (at 6) (the_unary.Int int_unary.Minus) (n 7 (codes "a"))) (codes "b"))))
unfolding meaning word keywords puncts
a_member_of_a_sign = (search rules, λ h. omega (arith, h))

-- nor one by `->`
an_arrow_of_a_sign : Disordered (codes "void f ( ) { - a -> b ; }") (body (trees.plain (at 6) (trees.arrow (at 8) (trees.unary (at 6) (the_unary.Int int_unary.Minus) (n 7 (codes "a"))) (codes "b"))))
unfolding meaning word keywords puncts
an_arrow_of_a_sign = (search rules, λ h. omega (arith, h))

-- a subscript of a prefix form
an_element_of_a_sign : Disordered (codes "void f ( ) { - a [ b ] ; }") (body (trees.plain (at 6) (trees.index (at 8) (trees.unary (at 6) (the_unary.Int int_unary.Minus) (n 7 (codes "a"))) (n 9 (codes "b")))))
unfolding meaning word keywords puncts
an_element_of_a_sign = (search rules, λ h. omega (arith, h))

-- a cast stands before a cast or tighter
a_cast_of_a_product : Disordered (codes "void f ( ) { ( int ) a * b ; }") (body (trees.plain (at 6) (trees.cast (at 6) (trees.type_name (at 7) (trees.more_specs (trees.word (at 7) the_spec_word.Int) trees.no_specs) trees.nameless) (trees.binary (at 10) (the_binary.Int int.Mul) (n 9 (codes "a")) (n 11 (codes "b"))))))
unfolding meaning word keywords puncts
a_cast_of_a_product = (search rules, λ h. omega (arith, h))

-- `sizeof` stands before a prefix form or tighter
the_size_of_a_cast : Disordered (codes "void f ( ) { sizeof ( int ) a ; }") (body (trees.plain (at 6) (trees.size_expr (at 6) (trees.cast (at 7) (trees.type_name (at 8) (trees.more_specs (trees.word (at 8) the_spec_word.Int) trees.no_specs) trees.nameless) (n 10 (codes "a"))))))
unfolding meaning word keywords puncts
the_size_of_a_cast = (search rules, λ h. omega (arith, h))

-- a string without literals
no_string : Disordered (codes "void f ( ) { ; }") (body (trees.plain (at 6) (trees.string (at 6) [])))
unfolding meaning word keywords puncts
no_string = (search rules, λ h. omega (arith, h))

-- a typedef name is no expression
a_type_as_an_expression : Disordered (codes "typedef int T ; void f ( ) { T ; }") (typed_body (trees.plain (at 10) (n 10 (codes "T"))))
unfolding meaning word keywords puncts
a_type_as_an_expression = (search rules, λ h. grind (arith, h))

-- and no member,
a_type_as_a_member : Disordered (codes "typedef int T ; void f ( ) { a . T ; }") (typed_body (trees.plain (at 10) (trees.member (at 11) (n 10 (codes "a")) (codes "T"))))
unfolding meaning word keywords puncts
a_type_as_a_member = (search rules, λ h. grind (arith, h))

-- by `->` neither
a_type_as_a_member_of_a_pointer : Disordered (codes "typedef int T ; void f ( ) { a -> T ; }") (typed_body (trees.plain (at 10) (trees.arrow (at 11) (n 10 (codes "a")) (codes "T"))))
unfolding meaning word keywords puncts
a_type_as_a_member_of_a_pointer = (search rules, λ h. grind (arith, h))

-- a statement stands where its expression begins
a_statement_at_its_operator : Disordered (codes "void f ( ) { a + b ; }") (body (trees.plain (at 7) (trees.binary (at 7) (the_binary.Int int.Add) (n 6 (codes "a")) (n 8 (codes "b")))))
unfolding meaning word keywords puncts
a_statement_at_its_operator = (search rules, λ h. grind (arith, h))

-- an `else` belongs to the nearest `if`,
else_of_the_outer : Disordered (codes "void f ( ) { if ( a ) if ( b ) c ; else d ; }") (body (trees.if_else (at 6) (n 8 (codes "a")) (trees.if_then (at 10) (n 12 (codes "b")) (trees.plain (at 14) (n 14 (codes "c")))) (trees.plain (at 17) (n 17 (codes "d")))))
unfolding meaning word keywords puncts
else_of_the_outer = (search rules, λ h. grind (arith, h))

-- in a loop too,
else_behind_a_while : Disordered (codes "void f ( ) { if ( a ) while ( b ) if ( c ) ; else ; }") (body (trees.if_else (at 6) (n 8 (codes "a")) (trees.while_loop (at 10) (n 12 (codes "b")) (trees.if_then (at 14) (n 16 (codes "c")) (trees.empty (at 18)))) (trees.empty (at 20))))
unfolding meaning word keywords puncts
else_behind_a_while = (search rules, λ h. grind (arith, h))

else_behind_a_for : Disordered (codes "void f ( ) { if ( a ) for ( ; ; ) if ( b ) ; else ; }") (body (trees.if_else (at 6) (n 8 (codes "a")) (trees.for_loop (at 10) trees.no_start None None (trees.if_then (at 15) (n 17 (codes "b")) (trees.empty (at 19)))) (trees.empty (at 21))))
unfolding meaning word keywords puncts
else_behind_a_for = (search rules, λ h. grind (arith, h))

-- and behind another `else`
else_behind_an_else : Disordered (codes "void f ( ) { if ( a ) if ( b ) ; else if ( c ) ; else ; }") (body (trees.if_else (at 6) (n 8 (codes "a")) (trees.if_else (at 10) (n 12 (codes "b")) (trees.empty (at 14)) (trees.if_then (at 16) (n 18 (codes "c")) (trees.empty (at 20)))) (trees.empty (at 22))))
unfolding meaning word keywords puncts
else_behind_an_else = (search rules, λ h. grind (arith, h))

-- a label has no assignment
a_case_of_an_assignment : Disordered (codes "void f ( ) { switch ( a ) { case b = c : } }") (body (trees.switch (at 6) (n 8 (codes "a")) (trees.block (at 10) (trees.more_items (trees.case_label (at 11) (trees.assign (at 13) the_assign.Plain (n 12 (codes "b")) (n 14 (codes "c")))) trees.no_items))))
unfolding meaning word keywords puncts
a_case_of_an_assignment = (search rules, λ h. omega (arith, h))
