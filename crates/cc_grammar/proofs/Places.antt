-- Which tokens fix the place of a node: a token's column is its number.
use Rattle.std.proofs.Common.{◌≡◌, refl, ℕ, List, [], ◌∷◌, map, is_some, Ok, Err, codes, if◌then◌else◌}
use Rattle.cc_base.specs.declared.place.Spot.{Spot}
use Rattle.cc_lex.specs.declared.token.Token.{Token}
use Rattle.cc_lex.specs.Meanings.{meaning, word}
use Rattle.cc_lex.specs.Spellings.{keywords, puncts}
use Rattle.cc_tree.specs.Trees.{ExternalTree}
use Rattle.cc_grammar.specs.Outcomes.{Outcome}
use Rattle.cc_grammar.specs.Outline.{Written, spell}
use Rattle.cc_grammar.specs.Outlines.{file}
use Rattle.cc_grammar.specs.Reading.{reading}
use Rattle.cc_grammar.proofs.Texts.{tokens}

abbrev found : Outcome (List (ExternalTree Spot)) → List (ExternalTree Spot)
found (Ok x) = x.0
found (Err ts) = []

abbrev columns : List Written → List Token → List ℕ
columns (w ∷ ws) (t ∷ ts) = if is_some w.spot then t.spot.column ∷ columns ws ts else columns ws ts
columns _ _ = []

-- the numbers of the tokens that fix the place of a node of the file that is read
abbrev fixed : List ℕ → List ℕ
fixed text = columns (spell (file (found (reading 64 (tokens text)))) []) (tokens text)

abbrev texts : List (List ℕ × List ℕ)
texts =
    (codes "void f ( ) { a . b ; c -> d ; e [ 1 ] ; g ( 2 , 3 ) ; }", 1 ∷ 2 ∷ 5 ∷ 6 ∷ 7 ∷ 10 ∷ 11 ∷ 14 ∷ 15 ∷ 16 ∷ 19 ∷ 21 ∷ 23 ∷ []) ∷
    (codes "void f ( ) { a = b + c ? d : e , ( g ) ; - h ++ ; -- i ; }", 1 ∷ 2 ∷ 5 ∷ 6 ∷ 7 ∷ 8 ∷ 9 ∷ 10 ∷ 11 ∷ 12 ∷ 14 ∷ 15 ∷ 16 ∷ 17 ∷ 20 ∷ 21 ∷ 22 ∷ 24 ∷ 25 ∷ []) ∷
    (codes "int a = sizeof b + sizeof ( int ) + ( char * ) \"c\" \"d\" + 'e' ;", 1 ∷ 2 ∷ 4 ∷ 5 ∷ 6 ∷ 7 ∷ 9 ∷ 11 ∷ 12 ∷ 13 ∷ 14 ∷ 16 ∷ 18 ∷ 19 ∷ []) ∷
    (codes "int * ( * a [ 3 ] ) ( int , char b , int ( * ) [ 2 ] ) ;", 1 ∷ 5 ∷ 7 ∷ 11 ∷ 13 ∷ 14 ∷ 16 ∷ 17 ∷ 18 ∷ 21 ∷ []) ∷
    (codes "int f ( int [ ] , int ( ) ) ;", 1 ∷ 2 ∷ 4 ∷ 5 ∷ 8 ∷ 9 ∷ []) ∷
    (codes "struct s { int a , b ; } c ; enum { A , B = 1 } d ; typedef int T ; T e ;", 1 ∷ 4 ∷ 5 ∷ 7 ∷ 10 ∷ 12 ∷ 14 ∷ 16 ∷ 18 ∷ 20 ∷ 22 ∷ 23 ∷ 24 ∷ 26 ∷ 27 ∷ []) ∷
    (codes "int a [ ] = { 1 , { 2 , } } ;", 1 ∷ 2 ∷ 6 ∷ 7 ∷ 9 ∷ 10 ∷ []) ∷
    (codes "void f ( ) { if ( a ) ; else { } while ( b ) do ; while ( c ) ; for ( int i ; ; ) break ; switch ( d ) { case 1 : default : continue ; } return ; }", 1 ∷ 2 ∷ 5 ∷ 6 ∷ 8 ∷ 10 ∷ 12 ∷ 14 ∷ 16 ∷ 18 ∷ 19 ∷ 22 ∷ 25 ∷ 27 ∷ 28 ∷ 32 ∷ 34 ∷ 36 ∷ 38 ∷ 39 ∷ 40 ∷ 42 ∷ 44 ∷ 47 ∷ []) ∷
    []

places : map (λ t. fixed t.0) texts ≡ map (λ t. t.1) texts
unfolding reading meaning word keywords puncts
places = refl
