-- Declarations that tokens spell, with each spot that a token fixes, and that are not orderly all the same.
use Rattle.std.proofs.Common.{true, false, [], ◌∷◌, Some, None, codes, arith, rules}
use Rattle.cc_lex.specs.Meanings.{meaning, word}
use Rattle.cc_lex.specs.Spellings.{keywords, puncts}
use Rattle.cc_tree.specs.Trees as trees
use Rattle.cc_tree.specs.declared.operator.AssignOp.TheVariants as the_assign
use Rattle.cc_tree.specs.declared.operator.SpecWord.TheVariants as the_spec_word
use Rattle.cc_grammar.proofs.Texts.{at}
use Rattle.cc_grammar.proofs.Disorders.{Disordered, n}

-- a typedef name is declared by no declarator,
a_type_declared : Disordered (codes "typedef int T ; int T ;") (trees.outer_declaration (trees.declaration (at 1) (trees.more_specs (trees.word (at 1) the_spec_word.Typedef) (trees.more_specs (trees.word (at 2) the_spec_word.Int) trees.no_specs)) (trees.init (trees.declared (at 3) (codes "T")) None ∷ [])) ∷ trees.outer_declaration (trees.declaration (at 5) (trees.more_specs (trees.word (at 5) the_spec_word.Int) trees.no_specs) (trees.init (trees.declared (at 6) (codes "T")) None ∷ [])) ∷ [])
unfolding meaning word keywords puncts
a_type_declared = (search rules, λ h. grind (arith, h))

-- and is no constant
a_type_as_a_constant : Disordered (codes "typedef int T ; enum { T } ;") (trees.outer_declaration (trees.declaration (at 1) (trees.more_specs (trees.word (at 1) the_spec_word.Typedef) (trees.more_specs (trees.word (at 2) the_spec_word.Int) trees.no_specs)) (trees.init (trees.declared (at 3) (codes "T")) None ∷ [])) ∷ trees.outer_declaration (trees.declaration (at 5) (trees.more_specs (trees.enum (at 5) None (trees.more_constants (trees.constant (at 7) (codes "T") trees.no_expr) trees.no_constants) false) trees.no_specs) ([])) ∷ [])
unfolding meaning word keywords puncts
a_type_as_a_constant = (search rules, λ h. grind (arith, h))

-- a name that is no typedef name is no type
a_name_as_a_type : Disordered (codes "a b ;") (trees.outer_declaration (trees.declaration (at 1) (trees.more_specs (trees.named (at 1) (codes "a")) trees.no_specs) (trees.init (trees.declared (at 2) (codes "b")) None ∷ [])) ∷ [])
unfolding meaning word keywords puncts
a_name_as_a_type = (search rules, λ h. grind (arith, h))

-- a declarator of a declaration has a name,
nothing_declared : Disordered (codes "int ;") (trees.outer_declaration (trees.declaration (at 1) (trees.more_specs (trees.word (at 1) the_spec_word.Int) trees.no_specs) (trees.init trees.nameless None ∷ [])) ∷ [])
unfolding meaning word keywords puncts
nothing_declared = (search rules, λ h. grind (arith, h))

-- and so has one of a function
nothing_defined : Disordered (codes "int ( ) { }") (trees.definition (at 2) (trees.more_specs (trees.word (at 1) the_spec_word.Int) trees.no_specs) (trees.function (at 2) trees.nameless trees.no_types) (trees.block (at 4) trees.no_items) ∷ [])
unfolding meaning word keywords puncts
nothing_defined = (search rules, λ h. grind (arith, h))

-- and one of a member,
a_nameless_member : Disordered (codes "struct { int ; } ;") (trees.outer_declaration (trees.declaration (at 1) (trees.more_specs (trees.struct (at 1) None (trees.more_members (trees.members (at 3) (trees.more_specs (trees.word (at 3) the_spec_word.Int) trees.no_specs) (trees.more_declarators trees.nameless trees.no_declarators)) trees.no_members)) trees.no_specs) ([])) ∷ [])
unfolding meaning word keywords puncts
a_nameless_member = (search rules, λ h. grind (arith, h))

-- each of them
a_nameless_second_member : Disordered (codes "struct { int a , ; } ;") (trees.outer_declaration (trees.declaration (at 1) (trees.more_specs (trees.struct (at 1) None (trees.more_members (trees.members (at 3) (trees.more_specs (trees.word (at 3) the_spec_word.Int) trees.no_specs) (trees.more_declarators (trees.declared (at 4) (codes "a")) (trees.more_declarators trees.nameless trees.no_declarators))) trees.no_members)) trees.no_specs) ([])) ∷ [])
unfolding meaning word keywords puncts
a_nameless_second_member = (search rules, λ h. grind (arith, h))

-- members have a declarator
no_member : Disordered (codes "struct { int ; } ;") (trees.outer_declaration (trees.declaration (at 1) (trees.more_specs (trees.struct (at 1) None (trees.more_members (trees.members (at 3) (trees.more_specs (trees.word (at 3) the_spec_word.Int) trees.no_specs) trees.no_declarators) trees.no_members)) trees.no_specs) ([])) ∷ [])
unfolding meaning word keywords puncts
no_member = (search rules, λ h. omega (arith, h))

-- a type name has no name
a_named_type : Disordered (codes "int a = sizeof ( int b ) ;") (trees.outer_declaration (trees.declaration (at 1) (trees.more_specs (trees.word (at 1) the_spec_word.Int) trees.no_specs) (trees.init (trees.declared (at 2) (codes "a")) (Some (trees.single (trees.size_type (at 4) (trees.type_name (at 6) (trees.more_specs (trees.word (at 6) the_spec_word.Int) trees.no_specs) (trees.declared (at 7) (codes "b")))))) ∷ [])) ∷ [])
unfolding meaning word keywords puncts
a_named_type = (search rules, λ h. grind (arith, h))

-- a pointer without parentheses takes no suffix,
an_array_of_a_pointer : Disordered (codes "int * a [ ] ;") (trees.outer_declaration (trees.declaration (at 1) (trees.more_specs (trees.word (at 1) the_spec_word.Int) trees.no_specs) (trees.init (trees.array (at 3) (trees.pointer (at 3) 0 (trees.declared (at 3) (codes "a"))) trees.no_expr) None ∷ [])) ∷ [])
unfolding meaning word keywords puncts
an_array_of_a_pointer = (search rules, λ h. grind (arith, h))

-- of no kind
a_function_of_a_pointer : Disordered (codes "int * a ( ) ;") (trees.outer_declaration (trees.declaration (at 1) (trees.more_specs (trees.word (at 1) the_spec_word.Int) trees.no_specs) (trees.init (trees.function (at 3) (trees.pointer (at 3) 0 (trees.declared (at 3) (codes "a"))) trees.no_types) None ∷ [])) ∷ [])
unfolding meaning word keywords puncts
a_function_of_a_pointer = (search rules, λ h. grind (arith, h))

-- something stands in the parentheses of a declarator
a_group_of_nothing : Disordered (codes "int f ( int ( ) ) ;") (trees.outer_declaration (trees.declaration (at 1) (trees.more_specs (trees.word (at 1) the_spec_word.Int) trees.no_specs) (trees.init (trees.function (at 2) (trees.declared (at 2) (codes "f")) (trees.more_types (trees.type_name (at 4) (trees.more_specs (trees.word (at 4) the_spec_word.Int) trees.no_specs) (trees.grouped (at 5) trees.nameless)) trees.no_types)) None ∷ [])) ∷ [])
unfolding meaning word keywords puncts
a_group_of_nothing = (search rules, λ h. grind (arith, h))

-- a pointer with a name stands at its name,
a_pointer_at_its_star : Disordered (codes "int * a ;") (trees.outer_declaration (trees.declaration (at 1) (trees.more_specs (trees.word (at 1) the_spec_word.Int) trees.no_specs) (trees.init (trees.pointer (at 2) 0 (trees.declared (at 3) (codes "a"))) None ∷ [])) ∷ [])
unfolding meaning word keywords puncts
a_pointer_at_its_star = (search rules, λ h. grind (arith, h))

-- a declarator in parentheses too,
a_group_at_its_parenthesis : Disordered (codes "int ( a ) ;") (trees.outer_declaration (trees.declaration (at 1) (trees.more_specs (trees.word (at 1) the_spec_word.Int) trees.no_specs) (trees.init (trees.grouped (at 2) (trees.declared (at 3) (codes "a"))) None ∷ [])) ∷ [])
unfolding meaning word keywords puncts
a_group_at_its_parenthesis = (search rules, λ h. grind (arith, h))

-- and a pointer around another,
a_pointer_of_a_pointer_at_its_star : Disordered (codes "int * * a ;") (trees.outer_declaration (trees.declaration (at 1) (trees.more_specs (trees.word (at 1) the_spec_word.Int) trees.no_specs) (trees.init (trees.pointer (at 2) 0 (trees.pointer (at 4) 0 (trees.declared (at 4) (codes "a")))) None ∷ [])) ∷ [])
unfolding meaning word keywords puncts
a_pointer_of_a_pointer_at_its_star = (search rules, λ h. grind (arith, h))

-- an array,
an_array_at_its_bracket : Disordered (codes "int a [ ] ;") (trees.outer_declaration (trees.declaration (at 1) (trees.more_specs (trees.word (at 1) the_spec_word.Int) trees.no_specs) (trees.init (trees.array (at 3) (trees.declared (at 2) (codes "a")) trees.no_expr) None ∷ [])) ∷ [])
unfolding meaning word keywords puncts
an_array_at_its_bracket = (search rules, λ h. grind (arith, h))

-- one of arrays,
an_array_of_arrays_at_its_bracket : Disordered (codes "int a [ ] [ ] ;") (trees.outer_declaration (trees.declaration (at 1) (trees.more_specs (trees.word (at 1) the_spec_word.Int) trees.no_specs) (trees.init (trees.array (at 5) (trees.array (at 2) (trees.declared (at 2) (codes "a")) trees.no_expr) trees.no_expr) None ∷ [])) ∷ [])
unfolding meaning word keywords puncts
an_array_of_arrays_at_its_bracket = (search rules, λ h. grind (arith, h))

-- a function,
a_function_at_its_parenthesis : Disordered (codes "int f ( ) ;") (trees.outer_declaration (trees.declaration (at 1) (trees.more_specs (trees.word (at 1) the_spec_word.Int) trees.no_specs) (trees.init (trees.function (at 3) (trees.declared (at 2) (codes "f")) trees.no_types) None ∷ [])) ∷ [])
unfolding meaning word keywords puncts
a_function_at_its_parenthesis = (search rules, λ h. grind (arith, h))

-- one that returns one,
a_function_of_a_function_at_its_parenthesis : Disordered (codes "int f ( ) ( ) ;") (trees.outer_declaration (trees.declaration (at 1) (trees.more_specs (trees.word (at 1) the_spec_word.Int) trees.no_specs) (trees.init (trees.function (at 5) (trees.function (at 2) (trees.declared (at 2) (codes "f")) trees.no_types) trees.no_types) None ∷ [])) ∷ [])
unfolding meaning word keywords puncts
a_function_of_a_function_at_its_parenthesis = (search rules, λ h. grind (arith, h))

-- one whose name stands in parentheses,
a_function_of_a_group_at_its_parenthesis : Disordered (codes "int ( f ) ( ) ;") (trees.outer_declaration (trees.declaration (at 1) (trees.more_specs (trees.word (at 1) the_spec_word.Int) trees.no_specs) (trees.init (trees.function (at 2) (trees.grouped (at 3) (trees.declared (at 3) (codes "f"))) trees.no_types) None ∷ [])) ∷ [])
unfolding meaning word keywords puncts
a_function_of_a_group_at_its_parenthesis = (search rules, λ h. grind (arith, h))

-- and one with a body
a_definition_at_its_type : Disordered (codes "int f ( ) { }") (trees.definition (at 1) (trees.more_specs (trees.word (at 1) the_spec_word.Int) trees.no_specs) (trees.function (at 2) (trees.declared (at 2) (codes "f")) trees.no_types) (trees.block (at 5) trees.no_items) ∷ [])
unfolding meaning word keywords puncts
a_definition_at_its_type = (search rules, λ h. grind (arith, h))

-- a length is no assignment
a_length_that_assigns : Disordered (codes "int a [ b = c ] ;") (trees.outer_declaration (trees.declaration (at 1) (trees.more_specs (trees.word (at 1) the_spec_word.Int) trees.no_specs) (trees.init (trees.array (at 2) (trees.declared (at 2) (codes "a")) (trees.an_expr (trees.assign (at 5) the_assign.Plain (n 4 (codes "b")) (n 6 (codes "c"))))) None ∷ [])) ∷ [])
unfolding meaning word keywords puncts
a_length_that_assigns = (search rules, λ h. omega (arith, h))

-- nor is the value of a constant
a_constant_that_assigns : Disordered (codes "enum { A = b = c } ;") (trees.outer_declaration (trees.declaration (at 1) (trees.more_specs (trees.enum (at 1) None (trees.more_constants (trees.constant (at 3) (codes "A") (trees.an_expr (trees.assign (at 6) the_assign.Plain (n 5 (codes "b")) (n 7 (codes "c"))))) trees.no_constants) false) trees.no_specs) ([])) ∷ [])
unfolding meaning word keywords puncts
a_constant_that_assigns = (search rules, λ h. omega (arith, h))

-- an initialiser is no comma expression,
a_value_with_a_comma : Disordered (codes "int a = b , c ;") (trees.outer_declaration (trees.declaration (at 1) (trees.more_specs (trees.word (at 1) the_spec_word.Int) trees.no_specs) (trees.init (trees.declared (at 2) (codes "a")) (Some (trees.single (trees.comma (at 5) (n 4 (codes "b")) (n 6 (codes "c"))))) ∷ [])) ∷ [])
unfolding meaning word keywords puncts
a_value_with_a_comma = (search rules, λ h. omega (arith, h))

-- in braces neither
a_value_in_braces_with_a_comma : Disordered (codes "int a [ ] = { b , c } ;") (trees.outer_declaration (trees.declaration (at 1) (trees.more_specs (trees.word (at 1) the_spec_word.Int) trees.no_specs) (trees.init (trees.array (at 2) (trees.declared (at 2) (codes "a")) trees.no_expr) (Some (trees.braces (at 6) (trees.more_values (trees.single (trees.comma (at 8) (n 7 (codes "b")) (n 9 (codes "c")))) trees.no_values) false)) ∷ [])) ∷ [])
unfolding meaning word keywords puncts
a_value_in_braces_with_a_comma = (search rules, λ h. omega (arith, h))

-- braces have a value
no_values : Disordered (codes "int a [ ] = { } ;") (trees.outer_declaration (trees.declaration (at 1) (trees.more_specs (trees.word (at 1) the_spec_word.Int) trees.no_specs) (trees.init (trees.array (at 2) (trees.declared (at 2) (codes "a")) trees.no_expr) (Some (trees.braces (at 6) trees.no_values false)) ∷ [])) ∷ [])
unfolding meaning word keywords puncts
no_values = (search rules, λ h. omega (arith, h))

-- a `struct` has a tag or members,
no_struct : Disordered (codes "struct ;") (trees.outer_declaration (trees.declaration (at 1) (trees.more_specs (trees.struct (at 1) None trees.no_members) trees.no_specs) ([])) ∷ [])
unfolding meaning word keywords puncts
no_struct = (search rules, λ h. omega (arith, h))

-- an `enum` a tag or constants,
no_enum : Disordered (codes "enum ;") (trees.outer_declaration (trees.declaration (at 1) (trees.more_specs (trees.enum (at 1) None trees.no_constants false) trees.no_specs) ([])) ∷ [])
unfolding meaning word keywords puncts
no_enum = (search rules, λ h. omega (arith, h))

-- and a last comma where there are some
a_comma_of_no_constants : Disordered (codes "enum e ;") (trees.outer_declaration (trees.declaration (at 1) (trees.more_specs (trees.enum (at 1) (Some (codes "e")) trees.no_constants true) trees.no_specs) ([])) ∷ [])
unfolding meaning word keywords puncts
a_comma_of_no_constants = (search rules, λ h. omega (arith, h))

-- a declaration has specifiers,
no_specifiers : Disordered (codes "a ;") (trees.outer_declaration (trees.declaration (at 1) trees.no_specs (trees.init (trees.declared (at 1) (codes "a")) None ∷ [])) ∷ [])
unfolding meaning word keywords puncts
no_specifiers = (search rules, λ h. omega (arith, h))

-- members too,
no_specifiers_of_members : Disordered (codes "struct { a ; } ;") (trees.outer_declaration (trees.declaration (at 1) (trees.more_specs (trees.struct (at 1) None (trees.more_members (trees.members (at 3) trees.no_specs (trees.more_declarators (trees.declared (at 3) (codes "a")) trees.no_declarators)) trees.no_members)) trees.no_specs) ([])) ∷ [])
unfolding meaning word keywords puncts
no_specifiers_of_members = (search rules, λ h. omega (arith, h))

-- a parameter,
no_specifiers_of_a_parameter : Disordered (codes "int f ( ) ;") (trees.outer_declaration (trees.declaration (at 1) (trees.more_specs (trees.word (at 1) the_spec_word.Int) trees.no_specs) (trees.init (trees.function (at 2) (trees.declared (at 2) (codes "f")) (trees.more_types (trees.type_name (at 4) trees.no_specs trees.nameless) trees.no_types)) None ∷ [])) ∷ [])
unfolding meaning word keywords puncts
no_specifiers_of_a_parameter = (search rules, λ h. omega (arith, h))

-- a type name
no_specifiers_of_a_type : Disordered (codes "int a = sizeof ( ) ;") (trees.outer_declaration (trees.declaration (at 1) (trees.more_specs (trees.word (at 1) the_spec_word.Int) trees.no_specs) (trees.init (trees.declared (at 2) (codes "a")) (Some (trees.single (trees.size_type (at 4) (trees.type_name (at 6) trees.no_specs trees.nameless)))) ∷ [])) ∷ [])
unfolding meaning word keywords puncts
no_specifiers_of_a_type = (search rules, λ h. omega (arith, h))

-- and a function with a body
no_specifiers_of_a_function : Disordered (codes "f ( ) { }") (trees.definition (at 1) trees.no_specs (trees.function (at 1) (trees.declared (at 1) (codes "f")) trees.no_types) (trees.block (at 4) trees.no_items) ∷ [])
unfolding meaning word keywords puncts
no_specifiers_of_a_function = (search rules, λ h. omega (arith, h))

-- a declaration stands at its first specifier,
a_declaration_at_its_name : Disordered (codes "int a ;") (trees.outer_declaration (trees.declaration (at 2) (trees.more_specs (trees.word (at 1) the_spec_word.Int) trees.no_specs) (trees.init (trees.declared (at 2) (codes "a")) None ∷ [])) ∷ [])
unfolding meaning word keywords puncts
a_declaration_at_its_name = (search rules, λ h. grind (arith, h))

-- members too,
members_at_their_name : Disordered (codes "struct { int a ; } ;") (trees.outer_declaration (trees.declaration (at 1) (trees.more_specs (trees.struct (at 1) None (trees.more_members (trees.members (at 4) (trees.more_specs (trees.word (at 3) the_spec_word.Int) trees.no_specs) (trees.more_declarators (trees.declared (at 4) (codes "a")) trees.no_declarators)) trees.no_members)) trees.no_specs) ([])) ∷ [])
unfolding meaning word keywords puncts
members_at_their_name = (search rules, λ h. grind (arith, h))

-- a parameter
a_parameter_at_its_name : Disordered (codes "int f ( int a ) ;") (trees.outer_declaration (trees.declaration (at 1) (trees.more_specs (trees.word (at 1) the_spec_word.Int) trees.no_specs) (trees.init (trees.function (at 2) (trees.declared (at 2) (codes "f")) (trees.more_types (trees.type_name (at 5) (trees.more_specs (trees.word (at 4) the_spec_word.Int) trees.no_specs) (trees.declared (at 5) (codes "a"))) trees.no_types)) None ∷ [])) ∷ [])
unfolding meaning word keywords puncts
a_parameter_at_its_name = (search rules, λ h. grind (arith, h))

-- and a type name
a_type_at_its_star : Disordered (codes "int a = sizeof ( int * ) ;") (trees.outer_declaration (trees.declaration (at 1) (trees.more_specs (trees.word (at 1) the_spec_word.Int) trees.no_specs) (trees.init (trees.declared (at 2) (codes "a")) (Some (trees.single (trees.size_type (at 4) (trees.type_name (at 7) (trees.more_specs (trees.word (at 6) the_spec_word.Int) trees.no_specs) (trees.pointer (at 7) 0 trees.nameless))))) ∷ [])) ∷ [])
unfolding meaning word keywords puncts
a_type_at_its_star = (search rules, λ h. grind (arith, h))
