-- Texts at the last depth that the grammar has. Each is a file, or stops being one at the token with this number.
use Rattle.std.proofs.Common.{◌≡◌, refl, Some, None, codes}
use Rattle.cc_lex.specs.Meanings.{meaning, word}
use Rattle.cc_lex.specs.Spellings.{keywords, puncts}
use Rattle.cc_grammar.specs.Reading.{reading}
use Rattle.cc_grammar.proofs.Texts.{stop}

-- a declaration in a `for`, its declarator and its value at depth 64
pub deep_16 : stop (codes "void f ( void ) { { { { { { { { { { { { { { { { { { { { { { { { { { { { { { { { { { { { { { { { { { { { { { { { { { { { { { { { { { { { { for ( int i = 0 ; ; ) ; } } } } } } } } } } } } } } } } } } } } } } } } } } } } } } } } } } } } } } } } } } } } } } } } } } } } } } } } } } } } }") ≡ None
unfolding reading meaning word keywords puncts
deep_16 = refl

-- one block more, and the declarator is too deep
pub deep_17 : stop (codes "void f ( void ) { { { { { { { { { { { { { { { { { { { { { { { { { { { { { { { { { { { { { { { { { { { { { { { { { { { { { { { { { { { { { { for ( int i = 0 ; ; ) ; } } } } } } } } } } } } } } } } } } } } } } } } } } } } } } } } } } } } } } } } } } } } } } } } } } } } } } } } } } } } } }") ≡ Some 71
unfolding reading meaning word keywords puncts
deep_17 = refl

-- where a declaration without one is not
pub deep_18 : stop (codes "void f ( void ) { { { { { { { { { { { { { { { { { { { { { { { { { { { { { { { { { { { { { { { { { { { { { { { { { { { { { { { { { { { { { { for ( int ; ; ) ; } } } } } } } } } } } } } } } } } } } } } } } } } } } } } } } } } } } } } } } } } } } } } } } } } } } } } } } } } } } } } }") ≡ None
unfolding reading meaning word keywords puncts
deep_18 = refl

-- with another block it is, at its first specifier
pub deep_19 : stop (codes "void f ( void ) { { { { { { { { { { { { { { { { { { { { { { { { { { { { { { { { { { { { { { { { { { { { { { { { { { { { { { { { { { { { { { { for ( int ; ; ) ; } } } } } } } } } } } } } } } } } } } } } } } } } } } } } } } } } } } } } } } } } } } } } } } } } } } } } } } } } } } } } } }") ≡ Some 71
unfolding reading meaning word keywords puncts
deep_19 = refl

-- there a `for` begins, and its statement is too deep
pub deep_20 : stop (codes "void f ( void ) { { { { { { { { { { { { { { { { { { { { { { { { { { { { { { { { { { { { { { { { { { { { { { { { { { { { { { { { { { { { { { { for ( ; ; ) ; } } } } } } } } } } } } } } } } } } } } } } } } } } } } } } } } } } } } } } } } } } } } } } } } } } } } } } } } } } } } } } }") ≡ Some 74
unfolding reading meaning word keywords puncts
deep_20 = refl

-- so is a condition,
pub deep_21 : stop (codes "void f ( void ) { { { { { { { { { { { { { { { { { { { { { { { { { { { { { { { { { { { { { { { { { { { { { { { { { { { { { { { { { { { { { { { if ( a ) ; } } } } } } } } } } } } } } } } } } } } } } } } } } } } } } } } } } } } } } } } } } } } } } } } } } } } } } } } } } } } } } }") ≡ Some 71
unfolding reading meaning word keywords puncts
deep_21 = refl

-- what is returned,
pub deep_22 : stop (codes "void f ( void ) { { { { { { { { { { { { { { { { { { { { { { { { { { { { { { { { { { { { { { { { { { { { { { { { { { { { { { { { { { { { { { { return a ; } } } } } } } } } } } } } } } } } } } } } } } } } } } } } } } } } } } } } } } } } } } } } } } } } } } } } } } } } } } } } } }") ≡ Some 70
unfolding reading meaning word keywords puncts
deep_22 = refl

-- and a declarator in a block,
pub deep_23 : stop (codes "void f ( void ) { { { { { { { { { { { { { { { { { { { { { { { { { { { { { { { { { { { { { { { { { { { { { { { { { { { { { { { { { { { { { { { int a ; } } } } } } } } } } } } } } } } } } } } } } } } } } } } } } } } } } } } } } } } } } } } } } } } } } } } } } } } } } } } } } }") ≡ Some 70
unfolding reading meaning word keywords puncts
deep_23 = refl

-- where a declaration is not
pub deep_24 : stop (codes "void f ( void ) { { { { { { { { { { { { { { { { { { { { { { { { { { { { { { { { { { { { { { { { { { { { { { { { { { { { { { { { { { { { { { { int ; return ; default : ; } } } } } } } } } } } } } } } } } } } } } } } } } } } } } } } } } } } } } } } } } } } } } } } } } } } } } } } } } } } } } } }") ≡ None
unfolding reading meaning word keywords puncts
deep_24 = refl

-- a label with a constant at depth 64
pub deep_25 : stop (codes "void f ( void ) { case - - - - - - - - - - - - - - - - - - - - - - - - - - - - - - - - - - - - - - - - - - - - - - - - - - - - - - - - - - - - - 1 : ; }") ≡ None
unfolding reading meaning word keywords puncts
deep_25 = refl

-- and one too deep
pub deep_26 : stop (codes "void f ( void ) { case - - - - - - - - - - - - - - - - - - - - - - - - - - - - - - - - - - - - - - - - - - - - - - - - - - - - - - - - - - - - - - 1 : ; }") ≡ Some 70
unfolding reading meaning word keywords puncts
deep_26 = refl

-- 63 lists of members, the innermost declarator at depth 64
pub deep_27 : stop (codes "struct { struct { struct { struct { struct { struct { struct { struct { struct { struct { struct { struct { struct { struct { struct { struct { struct { struct { struct { struct { struct { struct { struct { struct { struct { struct { struct { struct { struct { struct { struct { struct { struct { struct { struct { struct { struct { struct { struct { struct { struct { struct { struct { struct { struct { struct { struct { struct { struct { struct { struct { struct { struct { struct { struct { struct { struct { struct { struct { struct { struct { struct { struct { int a ; } a ; } a ; } a ; } a ; } a ; } a ; } a ; } a ; } a ; } a ; } a ; } a ; } a ; } a ; } a ; } a ; } a ; } a ; } a ; } a ; } a ; } a ; } a ; } a ; } a ; } a ; } a ; } a ; } a ; } a ; } a ; } a ; } a ; } a ; } a ; } a ; } a ; } a ; } a ; } a ; } a ; } a ; } a ; } a ; } a ; } a ; } a ; } a ; } a ; } a ; } a ; } a ; } a ; } a ; } a ; } a ; } a ; } a ; } a ; } a ; } a ; } a ; } a ;") ≡ None
unfolding reading meaning word keywords puncts
deep_27 = refl

-- with 64 it is too deep,
pub deep_28 : stop (codes "struct { struct { struct { struct { struct { struct { struct { struct { struct { struct { struct { struct { struct { struct { struct { struct { struct { struct { struct { struct { struct { struct { struct { struct { struct { struct { struct { struct { struct { struct { struct { struct { struct { struct { struct { struct { struct { struct { struct { struct { struct { struct { struct { struct { struct { struct { struct { struct { struct { struct { struct { struct { struct { struct { struct { struct { struct { struct { struct { struct { struct { struct { struct { struct { int a ; } a ; } a ; } a ; } a ; } a ; } a ; } a ; } a ; } a ; } a ; } a ; } a ; } a ; } a ; } a ; } a ; } a ; } a ; } a ; } a ; } a ; } a ; } a ; } a ; } a ; } a ; } a ; } a ; } a ; } a ; } a ; } a ; } a ; } a ; } a ; } a ; } a ; } a ; } a ; } a ; } a ; } a ; } a ; } a ; } a ; } a ; } a ; } a ; } a ; } a ; } a ; } a ; } a ; } a ; } a ; } a ; } a ; } a ; } a ; } a ; } a ; } a ; } a ; } a ;") ≡ Some 130
unfolding reading meaning word keywords puncts
deep_28 = refl

-- with 65 the last brace
pub deep_29 : stop (codes "struct { struct { struct { struct { struct { struct { struct { struct { struct { struct { struct { struct { struct { struct { struct { struct { struct { struct { struct { struct { struct { struct { struct { struct { struct { struct { struct { struct { struct { struct { struct { struct { struct { struct { struct { struct { struct { struct { struct { struct { struct { struct { struct { struct { struct { struct { struct { struct { struct { struct { struct { struct { struct { struct { struct { struct { struct { struct { struct { struct { struct { struct { struct { struct { struct { int a ; } a ; } a ; } a ; } a ; } a ; } a ; } a ; } a ; } a ; } a ; } a ; } a ; } a ; } a ; } a ; } a ; } a ; } a ; } a ; } a ; } a ; } a ; } a ; } a ; } a ; } a ; } a ; } a ; } a ; } a ; } a ; } a ; } a ; } a ; } a ; } a ; } a ; } a ; } a ; } a ; } a ; } a ; } a ; } a ; } a ; } a ; } a ; } a ; } a ; } a ; } a ; } a ; } a ; } a ; } a ; } a ; } a ; } a ; } a ; } a ; } a ; } a ; } a ; } a ; } a ;") ≡ Some 130
unfolding reading meaning word keywords puncts
deep_29 = refl

-- constants: a value at depth 64
pub deep_30 : stop (codes "enum { A = - - - - - - - - - - - - - - - - - - - - - - - - - - - - - - - - - - - - - - - - - - - - - - - - - - - - - - - - - - - - - - 1 } ;") ≡ None
unfolding reading meaning word keywords puncts
deep_30 = refl

-- and one too deep
pub deep_31 : stop (codes "enum { A = - - - - - - - - - - - - - - - - - - - - - - - - - - - - - - - - - - - - - - - - - - - - - - - - - - - - - - - - - - - - - - - 1 } ;") ≡ Some 68
unfolding reading meaning word keywords puncts
deep_31 = refl

-- 63 parentheses around a name
pub deep_32 : stop (codes "int ( ( ( ( ( ( ( ( ( ( ( ( ( ( ( ( ( ( ( ( ( ( ( ( ( ( ( ( ( ( ( ( ( ( ( ( ( ( ( ( ( ( ( ( ( ( ( ( ( ( ( ( ( ( ( ( ( ( ( ( ( ( ( p ) ) ) ) ) ) ) ) ) ) ) ) ) ) ) ) ) ) ) ) ) ) ) ) ) ) ) ) ) ) ) ) ) ) ) ) ) ) ) ) ) ) ) ) ) ) ) ) ) ) ) ) ) ) ) ) ) ) ) ) ) ) ) ;") ≡ None
unfolding reading meaning word keywords puncts
deep_32 = refl

-- with 64 the name is too deep
pub deep_33 : stop (codes "int ( ( ( ( ( ( ( ( ( ( ( ( ( ( ( ( ( ( ( ( ( ( ( ( ( ( ( ( ( ( ( ( ( ( ( ( ( ( ( ( ( ( ( ( ( ( ( ( ( ( ( ( ( ( ( ( ( ( ( ( ( ( ( ( p ) ) ) ) ) ) ) ) ) ) ) ) ) ) ) ) ) ) ) ) ) ) ) ) ) ) ) ) ) ) ) ) ) ) ) ) ) ) ) ) ) ) ) ) ) ) ) ) ) ) ) ) ) ) ) ) ) ) ) ) ) ) ) ) ;") ≡ Some 66
unfolding reading meaning word keywords puncts
deep_33 = refl

-- a parameter stands in a form: 62 parentheses around its name
pub deep_34 : stop (codes "int f ( int ( ( ( ( ( ( ( ( ( ( ( ( ( ( ( ( ( ( ( ( ( ( ( ( ( ( ( ( ( ( ( ( ( ( ( ( ( ( ( ( ( ( ( ( ( ( ( ( ( ( ( ( ( ( ( ( ( ( ( ( ( ( p ) ) ) ) ) ) ) ) ) ) ) ) ) ) ) ) ) ) ) ) ) ) ) ) ) ) ) ) ) ) ) ) ) ) ) ) ) ) ) ) ) ) ) ) ) ) ) ) ) ) ) ) ) ) ) ) ) ) ) ) ) ) ) ;") ≡ None
unfolding reading meaning word keywords puncts
deep_34 = refl

-- with 63 the name is too deep
pub deep_35 : stop (codes "int f ( int ( ( ( ( ( ( ( ( ( ( ( ( ( ( ( ( ( ( ( ( ( ( ( ( ( ( ( ( ( ( ( ( ( ( ( ( ( ( ( ( ( ( ( ( ( ( ( ( ( ( ( ( ( ( ( ( ( ( ( ( ( ( ( p ) ) ) ) ) ) ) ) ) ) ) ) ) ) ) ) ) ) ) ) ) ) ) ) ) ) ) ) ) ) ) ) ) ) ) ) ) ) ) ) ) ) ) ) ) ) ) ) ) ) ) ) ) ) ) ) ) ) ) ) ) ) ) ) ;") ≡ Some 68
unfolding reading meaning word keywords puncts
deep_35 = refl

-- with 64 the last parenthesis
pub deep_36 : stop (codes "int f ( int ( ( ( ( ( ( ( ( ( ( ( ( ( ( ( ( ( ( ( ( ( ( ( ( ( ( ( ( ( ( ( ( ( ( ( ( ( ( ( ( ( ( ( ( ( ( ( ( ( ( ( ( ( ( ( ( ( ( ( ( ( ( ( ( p ) ) ) ) ) ) ) ) ) ) ) ) ) ) ) ) ) ) ) ) ) ) ) ) ) ) ) ) ) ) ) ) ) ) ) ) ) ) ) ) ) ) ) ) ) ) ) ) ) ) ) ) ) ) ) ) ) ) ) ) ) ) ) ) ) ;") ≡ Some 68
unfolding reading meaning word keywords puncts
deep_36 = refl

-- 64 functions without a name, one in another
pub deep_37 : stop (codes "int f ( int ( int ( int ( int ( int ( int ( int ( int ( int ( int ( int ( int ( int ( int ( int ( int ( int ( int ( int ( int ( int ( int ( int ( int ( int ( int ( int ( int ( int ( int ( int ( int ( int ( int ( int ( int ( int ( int ( int ( int ( int ( int ( int ( int ( int ( int ( int ( int ( int ( int ( int ( int ( int ( int ( int ( int ( int ( int ( int ( int ( int ( int ( int ( int ) ) ) ) ) ) ) ) ) ) ) ) ) ) ) ) ) ) ) ) ) ) ) ) ) ) ) ) ) ) ) ) ) ) ) ) ) ) ) ) ) ) ) ) ) ) ) ) ) ) ) ) ) ) ) ) ) ) ) ) ) ) ) ) ;") ≡ None
unfolding reading meaning word keywords puncts
deep_37 = refl

-- the 65th is too deep
pub deep_38 : stop (codes "int f ( int ( int ( int ( int ( int ( int ( int ( int ( int ( int ( int ( int ( int ( int ( int ( int ( int ( int ( int ( int ( int ( int ( int ( int ( int ( int ( int ( int ( int ( int ( int ( int ( int ( int ( int ( int ( int ( int ( int ( int ( int ( int ( int ( int ( int ( int ( int ( int ( int ( int ( int ( int ( int ( int ( int ( int ( int ( int ( int ( int ( int ( int ( int ( int ( int ) ) ) ) ) ) ) ) ) ) ) ) ) ) ) ) ) ) ) ) ) ) ) ) ) ) ) ) ) ) ) ) ) ) ) ) ) ) ) ) ) ) ) ) ) ) ) ) ) ) ) ) ) ) ) ) ) ) ) ) ) ) ) ) ) ;") ≡ Some 131
unfolding reading meaning word keywords puncts
deep_38 = refl

-- and so is a name in the 64th
pub deep_39 : stop (codes "int f ( int ( int ( int ( int ( int ( int ( int ( int ( int ( int ( int ( int ( int ( int ( int ( int ( int ( int ( int ( int ( int ( int ( int ( int ( int ( int ( int ( int ( int ( int ( int ( int ( int ( int ( int ( int ( int ( int ( int ( int ( int ( int ( int ( int ( int ( int ( int ( int ( int ( int ( int ( int ( int ( int ( int ( int ( int ( int ( int ( int ( int ( int ( int ( int x ) ) ) ) ) ) ) ) ) ) ) ) ) ) ) ) ) ) ) ) ) ) ) ) ) ) ) ) ) ) ) ) ) ) ) ) ) ) ) ) ) ) ) ) ) ) ) ) ) ) ) ) ) ) ) ) ) ) ) ) ) ) ) ) ;") ≡ Some 131
unfolding reading meaning word keywords puncts
deep_39 = refl

-- 63 functions with names
pub deep_40 : stop (codes "int a ( int a ( int a ( int a ( int a ( int a ( int a ( int a ( int a ( int a ( int a ( int a ( int a ( int a ( int a ( int a ( int a ( int a ( int a ( int a ( int a ( int a ( int a ( int a ( int a ( int a ( int a ( int a ( int a ( int a ( int a ( int a ( int a ( int a ( int a ( int a ( int a ( int a ( int a ( int a ( int a ( int a ( int a ( int a ( int a ( int a ( int a ( int a ( int a ( int a ( int a ( int a ( int a ( int a ( int a ( int a ( int a ( int a ( int a ( int a ( int a ( int a ( int a ( int ) ) ) ) ) ) ) ) ) ) ) ) ) ) ) ) ) ) ) ) ) ) ) ) ) ) ) ) ) ) ) ) ) ) ) ) ) ) ) ) ) ) ) ) ) ) ) ) ) ) ) ) ) ) ) ) ) ) ) ) ) ) ) ;") ≡ None
unfolding reading meaning word keywords puncts
deep_40 = refl

-- with 64 the last parenthesis is too deep, since its name sinks
pub deep_41 : stop (codes "int a ( int a ( int a ( int a ( int a ( int a ( int a ( int a ( int a ( int a ( int a ( int a ( int a ( int a ( int a ( int a ( int a ( int a ( int a ( int a ( int a ( int a ( int a ( int a ( int a ( int a ( int a ( int a ( int a ( int a ( int a ( int a ( int a ( int a ( int a ( int a ( int a ( int a ( int a ( int a ( int a ( int a ( int a ( int a ( int a ( int a ( int a ( int a ( int a ( int a ( int a ( int a ( int a ( int a ( int a ( int a ( int a ( int a ( int a ( int a ( int a ( int a ( int a ( int a ( int ) ) ) ) ) ) ) ) ) ) ) ) ) ) ) ) ) ) ) ) ) ) ) ) ) ) ) ) ) ) ) ) ) ) ) ) ) ) ) ) ) ) ) ) ) ) ) ) ) ) ) ) ) ) ) ) ) ) ) ) ) ) ) ) ;") ≡ Some 192
unfolding reading meaning word keywords puncts
deep_41 = refl

-- a length in a form at depth 64
pub deep_42 : stop (codes "int a [ - - - - - - - - - - - - - - - - - - - - - - - - - - - - - - - - - - - - - - - - - - - - - - - - - - - - - - - - - - - - - - 1 ] ;") ≡ None
unfolding reading meaning word keywords puncts
deep_42 = refl

-- `sizeof` there, and a type could follow
pub deep_43 : stop (codes "int a [ - - - - - - - - - - - - - - - - - - - - - - - - - - - - - - - - - - - - - - - - - - - - - - - - - - - - - - - - - - - - - - sizeof (") ≡ Some 68
unfolding reading meaning word keywords puncts
deep_43 = refl

-- `sizeof` too deep
pub deep_44 : stop (codes "int a [ - - - - - - - - - - - - - - - - - - - - - - - - - - - - - - - - - - - - - - - - - - - - - - - - - - - - - - - - - - - - - - - sizeof (") ≡ Some 67
unfolding reading meaning word keywords puncts
deep_44 = refl

-- behind `sizeof` at depth 64 a parenthesis could come
pub deep_45 : stop (codes "void f ( void ) { - - - - - - - - - - - - - - - - - - - - - - - - - - - - - - - - - - - - - - - - - - - - - - - - - - - - - - - - - - - - - sizeof") ≡ Some 69
unfolding reading meaning word keywords puncts
deep_45 = refl

-- and a type in it
pub deep_46 : stop (codes "void f ( void ) { - - - - - - - - - - - - - - - - - - - - - - - - - - - - - - - - - - - - - - - - - - - - - - - - - - - - - - - - - - - - - sizeof (") ≡ Some 70
unfolding reading meaning word keywords puncts
deep_46 = refl

-- but no form of a declarator
pub deep_47 : stop (codes "void f ( void ) { - - - - - - - - - - - - - - - - - - - - - - - - - - - - - - - - - - - - - - - - - - - - - - - - - - - - - - - - - - - - - sizeof ( int * ) ; }") ≡ Some 71
unfolding reading meaning word keywords puncts
deep_47 = refl

-- one higher, there is one
pub deep_48 : stop (codes "void f ( void ) { - - - - - - - - - - - - - - - - - - - - - - - - - - - - - - - - - - - - - - - - - - - - - - - - - - - - - - - - - - - - sizeof ( int * ) ; }") ≡ None
unfolding reading meaning word keywords puncts
deep_48 = refl

-- `sizeof` is too deep
pub deep_49 : stop (codes "void f ( void ) { - - - - - - - - - - - - - - - - - - - - - - - - - - - - - - - - - - - - - - - - - - - - - - - - - - - - - - - - - - - - - - sizeof (") ≡ Some 69
unfolding reading meaning word keywords puncts
deep_49 = refl

-- what is cast is too deep, the type not
pub deep_50 : stop (codes "void f ( void ) { - - - - - - - - - - - - - - - - - - - - - - - - - - - - - - - - - - - - - - - - - - - - - - - - - - - - - - - - - - - - - ( int ) a ; }") ≡ Some 71
unfolding reading meaning word keywords puncts
deep_50 = refl

-- a name at depth 64, but no suffix, since it would sink
pub deep_51 : stop (codes "void f ( void ) { - - - - - - - - - - - - - - - - - - - - - - - - - - - - - - - - - - - - - - - - - - - - - - - - - - - - - - - - - - - - - a ++ ; }") ≡ Some 69
unfolding reading meaning word keywords puncts
deep_51 = refl

-- 61 assignments
pub deep_52 : stop (codes "void f ( void ) { a = a = a = a = a = a = a = a = a = a = a = a = a = a = a = a = a = a = a = a = a = a = a = a = a = a = a = a = a = a = a = a = a = a = a = a = a = a = a = a = a = a = a = a = a = a = a = a = a = a = a = a = a = a = a = a = a = a = a = a = a = a ; }") ≡ None
unfolding reading meaning word keywords puncts
deep_52 = refl

-- the 62nd is too deep: what it assigns to would sink
pub deep_53 : stop (codes "void f ( void ) { a = a = a = a = a = a = a = a = a = a = a = a = a = a = a = a = a = a = a = a = a = a = a = a = a = a = a = a = a = a = a = a = a = a = a = a = a = a = a = a = a = a = a = a = a = a = a = a = a = a = a = a = a = a = a = a = a = a = a = a = a = a = a ; }") ≡ Some 130
unfolding reading meaning word keywords puncts
deep_53 = refl

-- 61 choices
pub deep_54 : stop (codes "void f ( void ) { a ? b : a ? b : a ? b : a ? b : a ? b : a ? b : a ? b : a ? b : a ? b : a ? b : a ? b : a ? b : a ? b : a ? b : a ? b : a ? b : a ? b : a ? b : a ? b : a ? b : a ? b : a ? b : a ? b : a ? b : a ? b : a ? b : a ? b : a ? b : a ? b : a ? b : a ? b : a ? b : a ? b : a ? b : a ? b : a ? b : a ? b : a ? b : a ? b : a ? b : a ? b : a ? b : a ? b : a ? b : a ? b : a ? b : a ? b : a ? b : a ? b : a ? b : a ? b : a ? b : a ? b : a ? b : a ? b : a ? b : a ? b : a ? b : a ? b : a ? b : a ? b : a ; }") ≡ None
unfolding reading meaning word keywords puncts
deep_54 = refl

-- the 62nd is too deep
pub deep_55 : stop (codes "void f ( void ) { a ? b : a ? b : a ? b : a ? b : a ? b : a ? b : a ? b : a ? b : a ? b : a ? b : a ? b : a ? b : a ? b : a ? b : a ? b : a ? b : a ? b : a ? b : a ? b : a ? b : a ? b : a ? b : a ? b : a ? b : a ? b : a ? b : a ? b : a ? b : a ? b : a ? b : a ? b : a ? b : a ? b : a ? b : a ? b : a ? b : a ? b : a ? b : a ? b : a ? b : a ? b : a ? b : a ? b : a ? b : a ? b : a ? b : a ? b : a ? b : a ? b : a ? b : a ? b : a ? b : a ? b : a ? b : a ? b : a ? b : a ? b : a ? b : a ? b : a ? b : a ? b : a ? b : a ; }") ≡ Some 252
unfolding reading meaning word keywords puncts
deep_55 = refl

-- in 63 braces `sizeof` and a type could follow
pub deep_56 : stop (codes "int a [ ] = { { { { { { { { { { { { { { { { { { { { { { { { { { { { { { { { { { { { { { { { { { { { { { { { { { { { { { { { { { { { { { { sizeof (") ≡ Some 71
unfolding reading meaning word keywords puncts
deep_56 = refl

-- in 64 no `sizeof`
pub deep_57 : stop (codes "int a [ ] = { { { { { { { { { { { { { { { { { { { { { { { { { { { { { { { { { { { { { { { { { { { { { { { { { { { { { { { { { { { { { { { { sizeof (") ≡ Some 70
unfolding reading meaning word keywords puncts
deep_57 = refl

-- and no brace
pub deep_58 : stop (codes "int a [ ] = { { { { { { { { { { { { { { { { { { { { { { { { { { { { { { { { { { { { { { { { { { { { { { { { { { { { { { { { { { { { { { { { {") ≡ Some 70
unfolding reading meaning word keywords puncts
deep_58 = refl

-- no element is named by its number, at any depth
pub deep_59 : stop (codes "int a [ ] = { { { { { { { { { { { { { { { { { { { { { { { { { { { { { { { { { { { { { { { { { { { { { { { { { { { { { { { { { { { { { { { [ 0 ] = 1") ≡ Some 69
unfolding reading meaning word keywords puncts
deep_59 = refl

-- an initialiser stands beside its declarator: both at depth 64
pub deep_60 : stop (codes "int * * * * * * * * * * * * * * * * * * * * * * * * * * * * * * * * * * * * * * * * * * * * * * * * * * * * * * * * * * * * * * * p = - - - - - - - - - - - - - - - - - - - - - - - - - - - - - - - - - - - - - - - - - - - - - - - - - - - - - - - - - - - - - - - 1 ;") ≡ None
unfolding reading meaning word keywords puncts
deep_60 = refl

-- a value too deep
pub deep_61 : stop (codes "int p = - - - - - - - - - - - - - - - - - - - - - - - - - - - - - - - - - - - - - - - - - - - - - - - - - - - - - - - - - - - - - - - - 1 ;") ≡ Some 68
unfolding reading meaning word keywords puncts
deep_61 = refl
