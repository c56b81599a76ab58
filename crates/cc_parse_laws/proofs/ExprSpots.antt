-- Where an expression begins, its first token stands.
use Rattle.std.proofs.Common.{◌≡◌, ℕ, true, List, [], ◌∷◌, Option, Some, None, refl, sym, subst, ◌∙◌}
use Rattle.cc_base.specs.declared.place.Spot.{Spot}
use Rattle.cc_lex.specs.declared.token.Token.{Token}
use Rattle.cc_tree.specs.declared.operator.Side.TheVariants as side
use Rattle.cc_tree.specs.Trees.{ExprTree, name, integer, character, string, paren, unary, binary, assign, step, choice, comma, call, member, arrow, index, cast, size_expr, size_type}
use Rattle.cc_grammar.specs.Names.{Names}
use Rattle.cc_grammar.specs.Outline.{Outline, end, token, part, FitsSpot}
use Rattle.cc_grammar.specs.Outlines as outlines
use Rattle.cc_grammar.specs.Classes.{spot}
use Rattle.cc_parse_laws.proofs.Spans.{Reads, inside_holds}
use Rattle.cc_parse_laws.proofs.Inner.{ReadsExpr}

-- the spot of the first token, if it gives one
abbrev first_spot : Outline → Option Spot
first_spot end = None
first_spot (token h k n i) = n
first_spot (part c h i j) = None

first_stands : (i : Outline) (n : Spot) (d : ℕ) (ts r : List Token) → first_spot i ≡ Some n → Reads i d ts r → n ≡ spot ts
first_stands end n d ts r e x = absurd cc
first_stands (token h k s i) n d [] r e x = absurd x
first_stands (token h k s i) n d (t ∷ ts) r e x = sym (subst (λ m. FitsSpot m t.spot) e x.2)
first_stands (part c h i j) n d ts r e x = absurd cc

pub begins_at : (names : Names) (e : ExprTree Spot) (d : ℕ) (ts r : List Token) → Reads (outlines.expr names e) d ts r → outlines.begins e ≡ spot ts
begins_at names (name n y) d ts r x = first_stands (outlines.expr names (name n y)) n d ts r refl x
begins_at names (integer n v c) d ts r x = first_stands (outlines.expr names (integer n v c)) n d ts r refl x
begins_at names (character n v) d ts r x = first_stands (outlines.expr names (character n v)) n d ts r refl x
begins_at names (string n []) d ts r x = absurd x.1
begins_at names (string n (s ∷ ss)) d ts r x = first_stands (outlines.expr names (string n (s ∷ ss))) n d ts r refl x
begins_at names (paren n e) d ts r x = first_stands (outlines.expr names (paren n e)) n d ts r refl x
begins_at names (unary n op e) d ts r x = first_stands (outlines.expr names (unary n op e)) n d ts r refl x
begins_at names (binary n op a b) d ts r x = inside_holds true (λ f. Reads (outlines.expr names a) f ts x.0) (outlines.begins a ≡ spot ts) (λ f y. begins_at names a f ts x.0 y) d x.2
begins_at names (assign n op a b) d ts r x = inside_holds true (λ f. Reads (outlines.expr names a) f ts x.0) (outlines.begins a ≡ spot ts) (λ f y. begins_at names a f ts x.0 y) d x.2
begins_at names (step n op side.Before e) d ts r x = first_stands (outlines.expr names (step n op side.Before e)) n d ts r refl x
begins_at names (step n op side.After e) d ts r x = inside_holds true (λ f. Reads (outlines.expr names e) f ts x.0) (outlines.begins e ≡ spot ts) (λ f y. begins_at names e f ts x.0 y) d x.2
begins_at names (choice n c a b) d ts r x = inside_holds true (λ f. Reads (outlines.expr names c) f ts x.0) (outlines.begins c ≡ spot ts) (λ f y. begins_at names c f ts x.0 y) d x.2
begins_at names (comma n a b) d ts r x = inside_holds true (λ f. Reads (outlines.expr names a) f ts x.0) (outlines.begins a ≡ spot ts) (λ f y. begins_at names a f ts x.0 y) d x.2
begins_at names (call n f es) d ts r x = x.1 ∙ inside_holds true (λ g. Reads (outlines.expr names f) g ts x.2.0) (outlines.begins f ≡ spot ts) (λ g y. begins_at names f g ts x.2.0 y) d x.2.2
begins_at names (member n e y) d ts r x = inside_holds true (λ f. Reads (outlines.expr names e) f ts x.0) (outlines.begins e ≡ spot ts) (λ f z. begins_at names e f ts x.0 z) d x.2
begins_at names (arrow n e y) d ts r x = inside_holds true (λ f. Reads (outlines.expr names e) f ts x.0) (outlines.begins e ≡ spot ts) (λ f z. begins_at names e f ts x.0 z) d x.2
begins_at names (index n a i) d ts r x = inside_holds true (λ f. Reads (outlines.expr names a) f ts x.0) (outlines.begins a ≡ spot ts) (λ f y. begins_at names a f ts x.0 y) d x.2
begins_at names (cast n t e) d ts r x = first_stands (outlines.expr names (cast n t e)) n d ts r refl x
begins_at names (size_expr n e) d ts r x = first_stands (outlines.expr names (size_expr n e)) n d ts r refl x
begins_at names (size_type n t) d ts r x = first_stands (outlines.expr names (size_type n t)) n d ts r refl x

-- itself counted
pub expr_begins_at : (names : Names) (e : ExprTree Spot) (d : ℕ) (ts r : List Token) → ReadsExpr names d e ts r → outlines.begins e ≡ spot ts
expr_begins_at names e d ts r x = inside_holds true (λ f. Reads (outlines.expr names e) f ts r) (outlines.begins e ≡ spot ts) (λ f y. begins_at names e f ts r y) d x
