-- Where an expression begins, and which token a statement begins with.
use Rattle.std.proofs.Common.{◌≡◌, refl, ℕ, zero, suc, true, List, [], ◌∷◌, Option, Some, None, sym, ap, ◌∙◌}
use Rattle.cc_base.specs.declared.place.Spot.{Spot}
use Rattle.cc_lex.specs.declared.token.Token.{Token}
use Rattle.cc_lex.specs.declared.token.TokenKind.{TokenKind}
use Rattle.cc_lex.specs.declared.token.TokenKind.TheVariants as kind
use Rattle.cc_lex.specs.declared.keyword.Keyword.{Keyword}
use Rattle.cc_lex.specs.declared.keyword.Keyword.TheVariants as the_keyword
use Rattle.cc_lex.specs.declared.punct.Punct.{Punct}
use Rattle.cc_lex.specs.declared.punct.Punct.TheVariants as the_punct
use Rattle.cc_tree.specs.declared.operator.Side.TheVariants as side
use Rattle.cc_tree.specs.Trees.{ExprTree, name, integer, character, string, paren, unary, binary, assign, step, choice, comma, call, member, arrow, index, cast, size_expr, size_type}
use Rattle.cc_grammar.specs.Outline.{Outline, end, token, part, FitsSpot}
use Rattle.cc_grammar.specs.Outlines as outlines
use Rattle.cc_grammar.specs.Names.{Names}
use Rattle.cc_grammar.specs.Classes.{is_punct, is_keyword, next_is, next_is_keyword, spot, StmtStart, begins_block, begins_empty, begins_if, begins_switch, begins_while, begins_do, begins_for, begins_break, begins_continue, begins_return, begins_case, begins_default, begins_other, stmt_keyword, stmt_punct, stmt_kind, stmt_start}
use Rattle.cc_parse_laws.proofs.Spans.{Reads}
use Rattle.cc_parse_laws.proofs.Inner.{ReadsExpr}

-- ---- Expressions

-- the spot that the first token has, if it fixes the place of a node
abbrev first_spot : Outline → Option Spot
first_spot end = None
first_spot (token h k n i) = n
first_spot (part c h i j) = None

stands : (n : Option Spot) (m l : Spot) → n ≡ Some m → FitsSpot n l → m ≡ l
stands None m l e s = absurd cc
stands (Some k) m l e s = cc

first_token : (i : Outline) (n : Spot) (d : ℕ) (ts r : List Token) → first_spot i ≡ Some n → Reads i d ts r → n ≡ spot ts
first_token end n d ts r e x = absurd cc
first_token (token h k m i) n d [] r e x = absurd x
first_token (token h k m i) n d (t ∷ ts) r e x = stands m n t.spot e x.2
first_token (part c h i j) n d ts r e x = absurd cc

first_string : (n : Spot) (ss : List (List ℕ)) (d : ℕ) (ts r : List Token) → Reads (outlines.string_tokens n ss) d ts r → n ≡ spot ts
first_string n [] d ts r x = absurd x.1
first_string n (s ∷ ss) d [] r x = absurd x
first_string n (s ∷ ss) d (t ∷ ts) r x = sym x.2

-- of an expression that counts, if this holds of it
counted : (names : Names) (e : ExprTree Spot) → ((d : ℕ) (ts r : List Token) → Reads (outlines.expr names e) d ts r → outlines.begins e ≡ spot ts) → (d : ℕ) (ts r : List Token) → ReadsExpr names d e ts r → outlines.begins e ≡ spot ts
counted names e give zero ts r h = absurd h
counted names e give (suc d) ts r h = give d ts r h

-- an expression begins where its first token stands
expr_begins : (names : Names) (e : ExprTree Spot) (d : ℕ) (ts r : List Token) → Reads (outlines.expr names e) d ts r → outlines.begins e ≡ spot ts
expr_begins names (name n x) d ts r h = first_token (outlines.expr names (name n x)) n d ts r refl h
expr_begins names (integer n v c) d ts r h = first_token (outlines.expr names (integer n v c)) n d ts r refl h
expr_begins names (character n v) d ts r h = first_token (outlines.expr names (character n v)) n d ts r refl h
expr_begins names (string n ss) d ts r h = first_string n ss d ts r h
expr_begins names (paren n e) d ts r h = first_token (outlines.expr names (paren n e)) n d ts r refl h
expr_begins names (unary n op e) d ts r h = first_token (outlines.expr names (unary n op e)) n d ts r refl h
expr_begins names (binary n op a b) d ts r h = counted names a (expr_begins names a) d ts h.0 h.2
expr_begins names (assign n op a b) d ts r h = counted names a (expr_begins names a) d ts h.0 h.2
expr_begins names (step n op side.Before e) d ts r h = first_token (outlines.expr names (step n op side.Before e)) n d ts r refl h
expr_begins names (step n op side.After e) d ts r h = counted names e (expr_begins names e) d ts h.0 h.2
expr_begins names (choice n c a b) d ts r h = counted names c (expr_begins names c) d ts h.0 h.2
expr_begins names (comma n a b) d ts r h = counted names a (expr_begins names a) d ts h.0 h.2
expr_begins names (call n f es) d ts r h = h.1 ∙ counted names f (expr_begins names f) d ts h.2.0 h.2.2
expr_begins names (member n e x) d ts r h = counted names e (expr_begins names e) d ts h.0 h.2
expr_begins names (arrow n e x) d ts r h = counted names e (expr_begins names e) d ts h.0 h.2
expr_begins names (index n a i) d ts r h = counted names a (expr_begins names a) d ts h.0 h.2
expr_begins names (cast n t e) d ts r h = first_token (outlines.expr names (cast n t e)) n d ts r refl h
expr_begins names (size_expr n e) d ts r h = first_token (outlines.expr names (size_expr n e)) n d ts r refl h
expr_begins names (size_type n t) d ts r h = first_token (outlines.expr names (size_type n t)) n d ts r refl h

pub operand_begins : (names : Names) (e : ExprTree Spot) (d : ℕ) (ts r : List Token) → ReadsExpr names d e ts r → outlines.begins e ≡ spot ts
operand_begins names e d ts r h = counted names e (expr_begins names e) d ts r h

-- ---- Statements

-- the token that a statement or a label of this kind begins with
abbrev pub Opens : StmtStart → List Token → Type 0
Opens begins_block ts = next_is the_punct.LeftBrace ts ≡ true
Opens begins_empty ts = next_is the_punct.Semicolon ts ≡ true
Opens begins_if ts = next_is_keyword the_keyword.If ts ≡ true
Opens begins_switch ts = next_is_keyword the_keyword.Switch ts ≡ true
Opens begins_while ts = next_is_keyword the_keyword.While ts ≡ true
Opens begins_do ts = next_is_keyword the_keyword.Do ts ≡ true
Opens begins_for ts = next_is_keyword the_keyword.For ts ≡ true
Opens begins_break ts = next_is_keyword the_keyword.Break ts ≡ true
Opens begins_continue ts = next_is_keyword the_keyword.Continue ts ≡ true
Opens begins_return ts = next_is_keyword the_keyword.Return ts ≡ true
Opens begins_case ts = next_is_keyword the_keyword.Case ts ≡ true
Opens begins_default ts = next_is_keyword the_keyword.Default ts ≡ true
Opens begins_other ts = Unit {0}

pub opens : (ts : List Token) → Opens (stmt_start ts) ts
opens [] = tt
opens (t ∷ ts) = by_kind t.kind refl
  where
    by_keyword : (w : Keyword) → t.kind ≡ kind.Keyword w → Opens (stmt_keyword w) (t ∷ ts)
    by_keyword the_keyword.If e = ap (is_keyword the_keyword.If) e
    by_keyword the_keyword.Switch e = ap (is_keyword the_keyword.Switch) e
    by_keyword the_keyword.While e = ap (is_keyword the_keyword.While) e
    by_keyword the_keyword.Do e = ap (is_keyword the_keyword.Do) e
    by_keyword the_keyword.For e = ap (is_keyword the_keyword.For) e
    by_keyword the_keyword.Break e = ap (is_keyword the_keyword.Break) e
    by_keyword the_keyword.Continue e = ap (is_keyword the_keyword.Continue) e
    by_keyword the_keyword.Return e = ap (is_keyword the_keyword.Return) e
    by_keyword the_keyword.Case e = ap (is_keyword the_keyword.Case) e
    by_keyword the_keyword.Default e = ap (is_keyword the_keyword.Default) e
    by_keyword _ e = tt

    by_punct : (s : Punct) → t.kind ≡ kind.Punct s → Opens (stmt_punct s) (t ∷ ts)
    by_punct the_punct.LeftBrace e = ap (is_punct the_punct.LeftBrace) e
    by_punct the_punct.Semicolon e = ap (is_punct the_punct.Semicolon) e
    by_punct _ e = tt

    by_kind : (c : TokenKind) → t.kind ≡ c → Opens (stmt_kind c) (t ∷ ts)
    by_kind (kind.Keyword w) e = by_keyword w e
    by_kind (kind.Punct s) e = by_punct s e
    by_kind (kind.Identifier x) e = tt
    by_kind (kind.Integer v c) e = tt
    by_kind (kind.Character v) e = tt
    by_kind (kind.Str bytes) e = tt
