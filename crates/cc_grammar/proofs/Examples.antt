-- The grammar on texts: each is a file, or stops being one at the token with this number. Words of a text stand apart by one
-- space, each a token.
use Rattle.std.proofs.Common.{◌≡◌, refl, ℕ, List, [], ◌∷◌, map, Option, Some, None, codes}
use Rattle.cc_lex.specs.Meanings.{meaning, word}
use Rattle.cc_lex.specs.Spellings.{keywords, puncts}
use Rattle.cc_grammar.specs.Reading.{reading}
use Rattle.cc_grammar.proofs.Texts.{stop}
use Rattle.std.specs.Prelude.{Ok}

abbrev none : List (List ℕ) → List (Option ℕ)
none [] = []
none (t ∷ ts) = None ∷ none ts

-- an empty file
pub empty_file : reading 64 [] ≡ Ok ([], [])
unfolding reading
empty_file = refl

-- files
abbrev pub files_1_texts : List (List ℕ)
files_1_texts =
    codes "int a ;" ∷
    codes "int * const p ;" ∷
    codes "int f ( ) ;" ∷
    codes "int ( * f [ 3 ] ) ( void ) ;" ∷
    codes "void ( * g ( int ) ) ( int ) ;" ∷
    codes "struct s { int a , b ; } x ;" ∷
    codes "enum e { A , B = 2 , } ;" ∷
    codes "enum e { A , B } ;" ∷
    codes "int a [ ] = { 1 , { 2 } , } ;" ∷
    []

pub files_1 : map stop files_1_texts ≡ none files_1_texts
unfolding reading meaning word keywords puncts
files_1 = refl

-- files
abbrev pub files_2_texts : List (List ℕ)
files_2_texts =
    codes "void f ( void ) { for ( int i = 0 ; ; ) ; }" ∷
    codes "void f ( int a ) { switch ( a ) { case 1 : default : b ; } }" ∷
    codes "void f ( void ) { - a = b ; }" ∷
    codes "typedef int T ; T T ;" ∷
    codes "typedef int T ; int T ;" ∷
    codes "typedef int T ; void f ( T ) ; void g ( int T ) ; void h ( int ( T ) ) ;" ∷
    codes "typedef int f ( void ) { f ( ) ; }" ∷
    codes "typedef int T , * U ; U x ; T y ;" ∷
    codes "typedef int T [ sizeof ( int ) ] , U [ sizeof ( T ) ] ;" ∷
    []

pub files_2 : map stop files_2_texts ≡ none files_2_texts
unfolding reading meaning word keywords puncts
files_2 = refl

-- files
abbrev pub files_3_texts : List (List ℕ)
files_3_texts =
    codes "void f ( void ) { typedef int T ; T x ; } T y ;" ∷
    codes "void f ( void ) { for ( typedef int T ; ; ) ; T x ; }" ∷
    codes "struct s { int T ; } ; typedef int T ; T x ;" ∷
    codes "struct T { struct T * next ; } ; typedef struct T T ; T x ; struct T y ; enum T ;" ∷
    codes "char * s = \"a\" \"b\" ;" ∷
    codes "int f ( void ) { return 'a' ; }" ∷
    codes "int ; static ; struct s ;" ∷
    codes "inline static unsigned long long int f ( const char * s , int n [ 3 ] , int ( * g ) ( int ) ) { }" ∷
    codes "int ( f ) ( int ( * ) ( void ) , int [ ] , int * ( * ) [ 3 ] , int ( ( int ) ) ) ;" ∷
    []

pub files_3 : map stop files_3_texts ≡ none files_3_texts
unfolding reading meaning word keywords puncts
files_3 = refl

-- files
abbrev pub files_4_texts : List (List ℕ)
files_4_texts =
    codes "int a = 1 , * b = & a , c ( void ) ;" ∷
    codes "void f ( void ) { if ( a ) if ( b ) c ; else d ; else e ; }" ∷
    codes "void f ( void ) { do while ( a ) ; while ( b ) ; }" ∷
    codes "void f ( void ) { { ; } while ( 1 ) { break ; continue ; } return ; }" ∷
    codes "void f ( void ) { for ( ; ; ) for ( a = 0 , b = 1 ; a < 2 ; a ++ , b -- ) f ( a , b ) ; }" ∷
    codes "typedef int T ; void f ( void ) { T * x ; a * x ; ( T ) ( x ) ; }" ∷
    codes "const struct { enum { A = 1 + 2 } a ; const int * b ; } c ;" ∷
    []

pub files_4 : map stop files_4_texts ≡ none files_4_texts
unfolding reading meaning word keywords puncts
files_4 = refl

-- each form of an expression, with each operator
abbrev pub files_5_texts : List (List ℕ)
files_5_texts =
    codes "void f ( ) { a || b && c | d ^ e & g == h < i << j + k * l ; }" ∷
    codes "void f ( ) { a % b - c >> d >= e != g & h ^ i | j && k || l ; a / b <= c > d ; }" ∷
    codes "void f ( ) { a = b *= c /= d %= e += g -= h <<= i >>= j &= k ^= l |= 1 ; }" ∷
    codes "void f ( ) { & a ; * a ; + a ; - a ; ~ a ; ! a ; ++ a ; -- a ; a ++ ; a -- ; }" ∷
    codes "void f ( ) { a . b ; a -> b ; a [ b ] ; a ( ) ; 1 ; 'a' ; \"a\" \"b\" ; ( a ) ; a , b ; a ? b : c ; }" ∷
    codes "typedef int T ; void f ( ) { ( T ) a ; ( int * ) - b ; sizeof ( T ) ; sizeof a ; sizeof ( a ) ; }" ∷
    codes "int a = - ( ++ b [ c ( d , ( int ) e -> g . h ++ ) ] ) ;" ∷
    codes "void f ( ) { a ( ) [ 1 ] * b + c ? d : e , g ; }" ∷
    codes "void f ( ) { a , b = c ? d : e + g * sizeof h ( - i ) ; }" ∷
    codes "void f ( ) { a ( ) = b ? c ( ) ( ) : d ; }" ∷
    []

pub files_5 : map stop files_5_texts ≡ none files_5_texts
unfolding reading meaning word keywords puncts
files_5 = refl

-- each form of a statement
abbrev pub files_6_texts : List (List ℕ)
files_6_texts =
    codes "void f ( ) { ; a ; break ; continue ; return ; return a ; { } { int b ; ; } }" ∷
    codes "void f ( ) { for ( ; ; ) while ( a ) do if ( b ) switch ( c ) { default : { return - 2 ; } } else ; while ( d ) ; }" ∷
    codes "void f ( ) { if ( - a ) ; else ; }" ∷
    codes "void f ( ) { if ( a ) ; else { ; } }" ∷
    codes "void f ( ) { if ( a ) { ; } }" ∷
    codes "void f ( ) { if ( - a ) ; while ( b ) ; do ; while ( c ) ; switch ( d ) { } }" ∷
    codes "void f ( ) { while ( - a ) ; for ( b ; c ; d ) ; }" ∷
    codes "void f ( ) { do ; while ( - a ) ; }" ∷
    codes "void f ( ) { switch ( - a ) { case 1 : case 2 + 3 : default : ; } }" ∷
    codes "void f ( ) { switch ( a ) { case - 1 : ; } }" ∷
    codes "void f ( ) { for ( int i = 0 , * j ; ; ) ; }" ∷
    codes "void f ( ) { for ( - a ; b ; c ) ; }" ∷
    codes "void f ( ) { for ( a ; - b ; c ) ; }" ∷
    codes "void f ( ) { for ( a ; b ; - c ) ; }" ∷
    codes "void f ( ) { switch ( - a ) { } }" ∷
    codes "void f ( ) { while ( 1 ) { break ; } }" ∷
    codes "void f ( ) { do { continue ; } while ( 1 ) ; }" ∷
    codes "void f ( ) { { default : } }" ∷
    []

pub files_6 : map stop files_6_texts ≡ none files_6_texts
unfolding reading meaning word keywords puncts
files_6 = refl

-- specifiers, declarators and initialisers
abbrev pub files_7_texts : List (List ℕ)
files_7_texts =
    codes "struct { struct { int a ; } b ; } c ;" ∷
    codes "struct { int a ; char b , * * c [ 2 ] ; } d ;" ∷
    codes "enum { A , B = - 1 , C } a ;" ∷
    codes "enum { A = - 1 , B } a ;" ∷
    codes "enum { A } a ;" ∷
    codes "int a , * * b ( int c , int ( * d ) ( int * [ - 1 ] ) ) ;" ∷
    codes "int a = 1 , b [ ] = { 2 , { { - 3 } , 4 } , 5 } ;" ∷
    codes "int a = sizeof ( int ( * ) [ 3 ] ) ;" ∷
    codes "int a = ( int * const * ) b ;" ∷
    codes "static inline const unsigned long f ( signed short a ) { extern _Bool b ; }" ∷
    codes "int * f ( int ( a ) ) { }" ∷
    []

pub files_7 : map stop files_7_texts ≡ none files_7_texts
unfolding reading meaning word keywords puncts
files_7 = refl

-- no files, and where they stop being one
abbrev refused_1_texts : List (List ℕ × Option ℕ)
refused_1_texts =
    (codes "void f ( void ) { a ? b : c = d ; }", Some 12) ∷
    (codes "typedef int T ; int * T ;", Some 7) ∷
    (codes "void f ( void ) { while ( 1 ) int x ; }", Some 11) ∷
    (codes "void f ( void ) { while ( 1 ) case 1 : ; }", Some 11) ∷
    (codes "void f ( void ) { if (", Some 9) ∷
    (codes "void f ( void ) { return 1 + ; }", Some 10) ∷
    (codes "int a", Some 3) ∷
    (codes "void f ( void ) { x : ; }", Some 8) ∷
    (codes "struct s { int a : 3 ; } ;", Some 6) ∷
    (codes "int a [ ] = { . x = 1 } ;", Some 7) ∷
    []

pub refused_1 : map (λ t. stop t.0) refused_1_texts ≡ map (λ t. t.1) refused_1_texts
unfolding reading meaning word keywords puncts
refused_1 = refl

-- no files, and where they stop being one
abbrev refused_2_texts : List (List ℕ × Option ℕ)
refused_2_texts =
    (codes "void f ( void ) { x = ( int ) { 1 } ; }", Some 12) ∷
    (codes ";", Some 1) ∷
    (codes "void f ( void ) { switch ( a ) b ; }", Some 11) ∷
    (codes "struct s { int ; } ;", Some 5) ∷
    (codes "int a [ static 3 ] ;", Some 4) ∷
    (codes "void f ( a ) int a ; { }", Some 4) ∷
    (codes "int f ( int a [ * ] ) ;", Some 8) ∷
    (codes "int a [ 3 ] = { } ;", Some 8) ∷
    (codes "enum e { } ;", Some 4) ∷
    (codes "enum e { , } ;", Some 4) ∷
    []

pub refused_2 : map (λ t. stop t.0) refused_2_texts ≡ map (λ t. t.1) refused_2_texts
unfolding reading meaning word keywords puncts
refused_2 = refl

-- no files, and where they stop being one
abbrev refused_3_texts : List (List ℕ × Option ℕ)
refused_3_texts =
    (codes "struct ;", Some 2) ∷
    (codes "void f ( void ) { else ; }", Some 7) ∷
    (codes "void f ( void ) { a + = b ; }", Some 9) ∷
    (codes "void f ( void ) { ( int ) a = b ; }", Some 11) ∷
    (codes "void f ( void ) { ++ ( int ) a ; }", Some 9) ∷
    (codes "void f ( void ) { sizeof ( int ) a ; }", Some 11) ∷
    (codes "int f ( int , ) ;", Some 6) ∷
    (codes "void f ( void ) { f ( a , ) ; }", Some 11) ∷
    (codes "void f ( void ) { a . 1 ; }", Some 9) ∷
    (codes "typedef int T ; void f ( void ) { a . T ; }", Some 13) ∷
    []

pub refused_3 : map (λ t. stop t.0) refused_3_texts ≡ map (λ t. t.1) refused_3_texts
unfolding reading meaning word keywords puncts
refused_3 = refl

-- no files, and where they stop being one
abbrev refused_4_texts : List (List ℕ × Option ℕ)
refused_4_texts =
    (codes "typedef int T ; struct s { int T ; } ;", Some 10) ∷
    (codes "typedef int T = T ;", Some 5) ∷
    (codes "int ( * ) ;", Some 4) ∷
    (codes "int * ;", Some 3) ∷
    (codes "void f ( void ) { for ( int i = 0 ; ; ) int j ; }", Some 16) ∷
    (codes "void f ( void ) { do ; while ( 1 ) }", Some 13) ∷
    (codes "int a = 1 , ;", Some 6) ∷
    (codes "int ( ( ) ) ;", Some 4) ∷
    (codes "void f ( void ) { if ( a ) ; else ; else ; }", Some 14) ∷
    (codes "void f ( void ) { switch ( a ) case 1 : ; }", Some 11) ∷
    []

pub refused_4 : map (λ t. stop t.0) refused_4_texts ≡ map (λ t. t.1) refused_4_texts
unfolding reading meaning word keywords puncts
refused_4 = refl

-- a function's body and 63 blocks in it
pub deep_1 : stop (codes "void f ( void ) { { { { { { { { { { { { { { { { { { { { { { { { { { { { { { { { { { { { { { { { { { { { { { { { { { { { { { { { { { { { { { { { } } } } } } } } } } } } } } } } } } } } } } } } } } } } } } } } } } } } } } } } } } } } } } } } } } } } } } } } } } } } } } } }") ≡ None
unfolding reading meaning word keywords puncts
deep_1 = refl

-- the 65th brace is too deep
pub deep_2 : stop (codes "void f ( void ) { { { { { { { { { { { { { { { { { { { { { { { { { { { { { { { { { { { { { { { { { { { { { { { { { { { { { { { { { { { { { { { { { } } } } } } } } } } } } } } } } } } } } } } } } } } } } } } } } } } } } } } } } } } } } } } } } } } } } } } } } } } } } } } } } }") ≡ Some 70
unfolding reading meaning word keywords puncts
deep_2 = refl

-- an integer at depth 64
pub deep_3 : stop (codes "void f ( void ) { ( ( ( ( ( ( ( ( ( ( ( ( ( ( ( ( ( ( ( ( ( ( ( ( ( ( ( ( ( ( ( ( ( ( ( ( ( ( ( ( ( ( ( ( ( ( ( ( ( ( ( ( ( ( ( ( ( ( ( ( ( 1 ) ) ) ) ) ) ) ) ) ) ) ) ) ) ) ) ) ) ) ) ) ) ) ) ) ) ) ) ) ) ) ) ) ) ) ) ) ) ) ) ) ) ) ) ) ) ) ) ) ) ) ) ) ) ) ) ) ) ) ) ) ; }") ≡ None
unfolding reading meaning word keywords puncts
deep_3 = refl

-- a parenthesis at depth 64, the integer in it too deep
pub deep_4 : stop (codes "void f ( void ) { ( ( ( ( ( ( ( ( ( ( ( ( ( ( ( ( ( ( ( ( ( ( ( ( ( ( ( ( ( ( ( ( ( ( ( ( ( ( ( ( ( ( ( ( ( ( ( ( ( ( ( ( ( ( ( ( ( ( ( ( ( ( 1 ) ) ) ) ) ) ) ) ) ) ) ) ) ) ) ) ) ) ) ) ) ) ) ) ) ) ) ) ) ) ) ) ) ) ) ) ) ) ) ) ) ) ) ) ) ) ) ) ) ) ) ) ) ) ) ) ) ) ) ) ) ) ; }") ≡ Some 69
unfolding reading meaning word keywords puncts
deep_4 = refl

-- `sizeof` at depth 64 still takes a type,
pub deep_5 : stop (codes "void f ( void ) { - - - - - - - - - - - - - - - - - - - - - - - - - - - - - - - - - - - - - - - - - - - - - - - - - - - - - - - - - - - - - sizeof ( int ) ; }") ≡ None
unfolding reading meaning word keywords puncts
deep_5 = refl

-- but no expression, at its first token
pub deep_6 : stop (codes "void f ( void ) { - - - - - - - - - - - - - - - - - - - - - - - - - - - - - - - - - - - - - - - - - - - - - - - - - - - - - - - - - - - - - sizeof ( 1 ) ; }") ≡ Some 70
unfolding reading meaning word keywords puncts
deep_6 = refl

-- without parentheses too
pub deep_7 : stop (codes "void f ( void ) { - - - - - - - - - - - - - - - - - - - - - - - - - - - - - - - - - - - - - - - - - - - - - - - - - - - - - - - - - - - - - sizeof a ; }") ≡ Some 69
unfolding reading meaning word keywords puncts
deep_7 = refl

-- 63 stars and a name
pub deep_8 : stop (codes "int * * * * * * * * * * * * * * * * * * * * * * * * * * * * * * * * * * * * * * * * * * * * * * * * * * * * * * * * * * * * * * * p ;") ≡ None
unfolding reading meaning word keywords puncts
deep_8 = refl

-- with 64 the name is too deep
pub deep_9 : stop (codes "int * * * * * * * * * * * * * * * * * * * * * * * * * * * * * * * * * * * * * * * * * * * * * * * * * * * * * * * * * * * * * * * * p ;") ≡ Some 66
unfolding reading meaning word keywords puncts
deep_9 = refl

-- 63 suffixes behind a name
pub deep_10 : stop (codes "int a [ 1 ] [ 1 ] [ 1 ] [ 1 ] [ 1 ] [ 1 ] [ 1 ] [ 1 ] [ 1 ] [ 1 ] [ 1 ] [ 1 ] [ 1 ] [ 1 ] [ 1 ] [ 1 ] [ 1 ] [ 1 ] [ 1 ] [ 1 ] [ 1 ] [ 1 ] [ 1 ] [ 1 ] [ 1 ] [ 1 ] [ 1 ] [ 1 ] [ 1 ] [ 1 ] [ 1 ] [ 1 ] [ 1 ] [ 1 ] [ 1 ] [ 1 ] [ 1 ] [ 1 ] [ 1 ] [ 1 ] [ 1 ] [ 1 ] [ 1 ] [ 1 ] [ 1 ] [ 1 ] [ 1 ] [ 1 ] [ 1 ] [ 1 ] [ 1 ] [ 1 ] [ 1 ] [ 1 ] [ 1 ] [ 1 ] [ 1 ] [ 1 ] [ 1 ] [ 1 ] [ 1 ] [ 1 ] [ 1 ] ;") ≡ None
unfolding reading meaning word keywords puncts
deep_10 = refl

-- with 64 the last bracket is too deep, since the name sinks
pub deep_11 : stop (codes "int a [ 1 ] [ 1 ] [ 1 ] [ 1 ] [ 1 ] [ 1 ] [ 1 ] [ 1 ] [ 1 ] [ 1 ] [ 1 ] [ 1 ] [ 1 ] [ 1 ] [ 1 ] [ 1 ] [ 1 ] [ 1 ] [ 1 ] [ 1 ] [ 1 ] [ 1 ] [ 1 ] [ 1 ] [ 1 ] [ 1 ] [ 1 ] [ 1 ] [ 1 ] [ 1 ] [ 1 ] [ 1 ] [ 1 ] [ 1 ] [ 1 ] [ 1 ] [ 1 ] [ 1 ] [ 1 ] [ 1 ] [ 1 ] [ 1 ] [ 1 ] [ 1 ] [ 1 ] [ 1 ] [ 1 ] [ 1 ] [ 1 ] [ 1 ] [ 1 ] [ 1 ] [ 1 ] [ 1 ] [ 1 ] [ 1 ] [ 1 ] [ 1 ] [ 1 ] [ 1 ] [ 1 ] [ 1 ] [ 1 ] [ 1 ] ;") ≡ Some 192
unfolding reading meaning word keywords puncts
deep_11 = refl

-- 61 operators of one level
pub deep_12 : stop (codes "void f ( void ) { a + a + a + a + a + a + a + a + a + a + a + a + a + a + a + a + a + a + a + a + a + a + a + a + a + a + a + a + a + a + a + a + a + a + a + a + a + a + a + a + a + a + a + a + a + a + a + a + a + a + a + a + a + a + a + a + a + a + a + a + a + a ; }") ≡ None
unfolding reading meaning word keywords puncts
deep_12 = refl

-- the 62nd is too deep
pub deep_13 : stop (codes "void f ( void ) { a + a + a + a + a + a + a + a + a + a + a + a + a + a + a + a + a + a + a + a + a + a + a + a + a + a + a + a + a + a + a + a + a + a + a + a + a + a + a + a + a + a + a + a + a + a + a + a + a + a + a + a + a + a + a + a + a + a + a + a + a + a + a ; }") ≡ Some 130
unfolding reading meaning word keywords puncts
deep_13 = refl

-- 63 braces of an initialiser
pub deep_14 : stop (codes "int a [ ] = { { { { { { { { { { { { { { { { { { { { { { { { { { { { { { { { { { { { { { { { { { { { { { { { { { { { { { { { { { { { { { { 1 } } } } } } } } } } } } } } } } } } } } } } } } } } } } } } } } } } } } } } } } } } } } } } } } } } } } } } } } } } } } } } } ;") ≡ None
unfolding reading meaning word keywords puncts
deep_14 = refl

-- the integer in the 64th is too deep
pub deep_15 : stop (codes "int a [ ] = { { { { { { { { { { { { { { { { { { { { { { { { { { { { { { { { { { { { { { { { { { { { { { { { { { { { { { { { { { { { { { { { 1 } } } } } } } } } } } } } } } } } } } } } } } } } } } } } } } } } } } } } } } } } } } } } } } } } } } } } } } } } } } } } } } } ;") ≡ Some 70
unfolding reading meaning word keywords puncts
deep_15 = refl
