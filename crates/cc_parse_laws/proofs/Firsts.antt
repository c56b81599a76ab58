-- With which tokens expressions, specifiers and declarators begin.
use Rattle.std.proofs.Common.{◌≡◌, ◌≤◌, refl, ℕ, zero, suc, Bool, true, false, List, [], ◌∷◌, Option, Some, arith, sym, ap, ◌∙◌}
use Rattle.std.proofs.lemmas.Bool.{and_left, and_right}
use Rattle.std.specs.Prelude.{◌&&◌}
use Rattle.cc_arith.specs.declared.binary_operator.IntOp.{IntOp}
use Rattle.cc_arith.specs.declared.binary_operator.IntOp.TheVariants as int
use Rattle.cc_arith.specs.declared.unary_operator.IntUnary.TheVariants as int_unary
use Rattle.cc_base.specs.declared.place.Spot.{Spot}
use Rattle.cc_lex.specs.declared.token.Token.{Token}
use Rattle.cc_lex.specs.declared.token.TokenKind.{TokenKind}
use Rattle.cc_lex.specs.declared.token.TokenKind.TheVariants as kind
use Rattle.cc_lex.specs.declared.keyword.Keyword.TheVariants as the_keyword
use Rattle.cc_lex.specs.declared.punct.Punct.{Punct}
use Rattle.cc_lex.specs.declared.punct.Punct.TheVariants as the_punct
use Rattle.cc_tree.specs.declared.operator.UnaryOp.{UnaryOp}
use Rattle.cc_tree.specs.declared.operator.UnaryOp.TheVariants as the_unary
use Rattle.cc_tree.specs.declared.operator.BinaryOp.{BinaryOp}
use Rattle.cc_tree.specs.declared.operator.BinaryOp.TheVariants as the_binary
use Rattle.cc_tree.specs.declared.operator.StepOp.{StepOp}
use Rattle.cc_tree.specs.declared.operator.StepOp.TheVariants as the_step
use Rattle.cc_tree.specs.declared.operator.Side.TheVariants as side
use Rattle.cc_tree.specs.declared.operator.SpecWord.{SpecWord}
use Rattle.cc_tree.specs.declared.operator.SpecWord.TheVariants as the_spec_word
use Rattle.cc_tree.specs.Trees.{Name, ExprTree, name, integer, character, string, paren, unary, binary, assign, step, choice, comma, call, member, arrow, index, cast, size_expr, size_type, SpecTree, word, named, struct, enum, SpecTrees, no_specs, more_specs}
use Rattle.cc_grammar.specs.Levels.{level, binary_level, int_level, unary_punct, step_punct, word_keyword}
use Rattle.cc_grammar.specs.Names.{Names, is_type}
use Rattle.cc_grammar.specs.Outline.{Outline, end, token}
use Rattle.cc_grammar.specs.Outlines as outlines
use Rattle.cc_grammar.specs.Classes.{next_is, skip, spot, is_punct, start, start_kind, start_punct, Start, begins_name, begins_integer, begins_character, begins_string, begins_paren, begins_unary, begins_step, begins_sizeof, begins_nothing, spec_kind, spec_keyword, starts_spec, is_spec}
use Rattle.cc_parse_laws.proofs.Spans.{Inside, Reads, reads_depth, reads_within}
use Rattle.cc_parse_laws.proofs.Steps.{next_token}
use Rattle.cc_parse_laws.proofs.Peeks.{after, inside, at_token, at_punct, punct_spec}
use Rattle.cc_parse_laws.proofs.Inner.{ReadsExpr}

-- what is read in a counted node is read at the node's own depth too
pub inside_sinks : (c : Bool) (i : Outline) (d : ℕ) (ts r : List Token) → Inside c (λ e. Reads i e ts r) d → Reads i d ts r
inside_sinks false i d ts r x = x
inside_sinks true i zero ts r x = absurd x
inside_sinks true i (suc d) ts r x = reads_within i d (suc d) ts r x (omega (arith, reads_depth i d ts r x))

-- ---- Expressions

abbrev pub opens : Start → Bool
opens (begins_name x) = true
opens (begins_integer v c) = true
opens (begins_character v) = true
opens (begins_string bytes) = true
opens begins_paren = true
opens (begins_unary op) = true
opens (begins_step op) = true
opens begins_sizeof = true
opens begins_nothing = false

-- the next token begins an expression, and no specifier
pub record OpensExpr (names : Names) (ts : List Token) : Type 0 where
  pub begins : opens (start ts) ≡ true
  pub no_spec : starts_spec names ts ≡ false

opens_at : (names : Names) (h : Type 0) (k : TokenKind) (n : Option Spot) (i : Outline) (d : ℕ) (ts r : List Token) → opens (start_kind k) ≡ true → is_spec (spec_kind names k) ≡ false → Reads (token h k n i) d ts r → OpensExpr names ts
opens_at names h k n i d ts r a b x = record {
  begins = ap opens (at_token start start_kind (λ t us. refl) h k n i d ts r x) ∙ a;
  no_spec = at_token (starts_spec names) (λ c. is_spec (spec_kind names c)) (λ t us. refl) h k n i d ts r x ∙ b;
}

pub unary_opens : (op : UnaryOp) → opens (start_punct (unary_punct op)) ≡ true
unary_opens the_unary.Address = refl
unary_opens the_unary.Deref = refl
unary_opens (the_unary.Int int_unary.Plus) = refl
unary_opens (the_unary.Int int_unary.Minus) = refl
unary_opens (the_unary.Int int_unary.Invert) = refl
unary_opens (the_unary.Int int_unary.Not) = refl

pub step_opens : (op : StepOp) → opens (start_punct (step_punct op)) ≡ true
step_opens the_step.Increment = refl
step_opens the_step.Decrement = refl

pub not_named : (names : Names) (x : Name) → is_type names x ≡ false → is_spec (spec_kind names (kind.Identifier x)) ≡ false
not_named names x e = rw e refl

pub first_expr : (names : Names) (e : ExprTree Spot) (d : ℕ) (ts r : List Token) → Reads (outlines.expr names e) d ts r → OpensExpr names ts
first_expr names (name n x) d ts r y =
    let t = next_token (is_type names x ≡ false) (kind.Identifier x) (Some n) end d ts r y in
    opens_at names (is_type names x ≡ false) (kind.Identifier x) (Some n) end d ts r refl (not_named names x t.holds) y
first_expr names (integer n v c) d ts r y = opens_at names (Unit {0}) (kind.Integer v c) (Some n) end d ts r refl refl y
first_expr names (character n v) d ts r y = opens_at names (Unit {0}) (kind.Character v) (Some n) end d ts r refl refl y
first_expr names (string n []) d ts r y = absurd y.1
first_expr names (string n (b ∷ bs)) d ts r y = opens_at names (Unit {0}) (kind.Str b) (Some n) (outlines.strings bs) d ts r refl refl y
first_expr names (paren n e) d ts r y = opens_at names (Unit {0}) (kind.Punct the_punct.LeftParen) (Some n) (after (outlines.expr names (paren n e))) d ts r refl refl y
first_expr names (unary n op e) d ts r y = opens_at names (Unit {0}) (kind.Punct (unary_punct op)) (Some n) (after (outlines.expr names (unary n op e))) d ts r (unary_opens op) refl y
first_expr names (binary n op a b) d ts r y = first_expr names a d ts y.0 (inside_sinks true (outlines.expr names a) d ts y.0 y.2)
first_expr names (assign n op a b) d ts r y = first_expr names a d ts y.0 (inside_sinks true (outlines.expr names a) d ts y.0 y.2)
first_expr names (step n op side.Before e) d ts r y = opens_at names (Unit {0}) (kind.Punct (step_punct op)) (Some n) (after (outlines.expr names (step n op side.Before e))) d ts r (step_opens op) refl y
first_expr names (step n op side.After e) d ts r y = first_expr names e d ts y.0 (inside_sinks true (outlines.expr names e) d ts y.0 y.2)
first_expr names (choice n c a b) d ts r y = first_expr names c d ts y.0 (inside_sinks true (outlines.expr names c) d ts y.0 y.2)
first_expr names (comma n a b) d ts r y = first_expr names a d ts y.0 (inside_sinks true (outlines.expr names a) d ts y.0 y.2)
first_expr names (call n f es) d ts r y = first_expr names f d ts y.2.0 (inside_sinks true (outlines.expr names f) d ts y.2.0 y.2.2)
first_expr names (member n e x) d ts r y = first_expr names e d ts y.0 (inside_sinks true (outlines.expr names e) d ts y.0 y.2)
first_expr names (arrow n e x) d ts r y = first_expr names e d ts y.0 (inside_sinks true (outlines.expr names e) d ts y.0 y.2)
first_expr names (index n a i) d ts r y = first_expr names a d ts y.0 (inside_sinks true (outlines.expr names a) d ts y.0 y.2)
first_expr names (cast n t e) d ts r y = opens_at names (Unit {0}) (kind.Punct the_punct.LeftParen) (Some n) (after (outlines.expr names (cast n t e))) d ts r refl refl y
first_expr names (size_expr n e) d ts r y = opens_at names (Unit {0}) (kind.Keyword the_keyword.Sizeof) (Some n) (after (outlines.expr names (size_expr n e))) d ts r refl refl y
first_expr names (size_type n t) d ts r y = opens_at names (Unit {0}) (kind.Keyword the_keyword.Sizeof) (Some n) (after (outlines.expr names (size_type n t))) d ts r refl refl y

pub first_operand : (names : Names) (e : ExprTree Spot) (d : ℕ) (ts r : List Token) → ReadsExpr names d e ts r → OpensExpr names ts
first_operand names e d ts r y = first_expr names e d ts r (inside_sinks true (outlines.expr names e) d ts r y)

-- no punctuator that begins no expression
pub opens_not : (names : Names) (q : Punct) (ts : List Token) → start_punct q ≡ begins_nothing → OpensExpr names ts → next_is q ts ≡ false
opens_not names q ts none x = by (next_is q ts) refl
  where
    by : (b : Bool) → next_is q ts ≡ b → next_is q ts ≡ false
    by false e = e
    by true e =
        let here : opens (start ts) ≡ opens (start_punct q) = ap opens (at_punct start start_kind (λ t us. refl) q ts e) in
        let there : opens (start_punct q) ≡ false = ap opens none in
        let begins : opens (start ts) ≡ true = x.begins in
        absurd cc

int_most : (op : IntOp) → int_level op ≤ 13
int_most int.Or = omega arith
int_most int.Xor = omega arith
int_most int.And = omega arith
int_most int.Eq = omega arith
int_most int.Ne = omega arith
int_most int.Lt = omega arith
int_most int.Le = omega arith
int_most int.Gt = omega arith
int_most int.Ge = omega arith
int_most int.Shl = omega arith
int_most int.Shr = omega arith
int_most int.Add = omega arith
int_most int.Sub = omega arith
int_most int.Mul = omega arith
int_most int.Div = omega arith
int_most int.Rem = omega arith

pub op_most : (op : BinaryOp) → binary_level op ≤ 13
op_most the_binary.OrOr = omega arith
op_most the_binary.AndAnd = omega arith
op_most (the_binary.Int op) = int_most op

-- a parenthesis with a specifier in it
abbrev pub type_ahead : Names → List Token → Bool
type_ahead names ts = next_is the_punct.LeftParen ts && starts_spec names (skip ts)

other_ahead : (names : Names) (h : Type 0) (k : TokenKind) (n : Option Spot) (i : Outline) (d : ℕ) (ts r : List Token) → is_punct the_punct.LeftParen k ≡ false → Reads (token h k n i) d ts r → type_ahead names ts ≡ false
other_ahead names h k n i d ts r a x = and_left (next_is the_punct.LeftParen ts) (starts_spec names (skip ts)) (at_token (next_is the_punct.LeftParen) (is_punct the_punct.LeftParen) (λ t us. refl) h k n i d ts r x ∙ a)

pub unary_no_paren : (op : UnaryOp) → is_punct the_punct.LeftParen (kind.Punct (unary_punct op)) ≡ false
unary_no_paren the_unary.Address = refl
unary_no_paren the_unary.Deref = refl
unary_no_paren (the_unary.Int int_unary.Plus) = refl
unary_no_paren (the_unary.Int int_unary.Minus) = refl
unary_no_paren (the_unary.Int int_unary.Invert) = refl
unary_no_paren (the_unary.Int int_unary.Not) = refl

pub step_no_paren : (op : StepOp) → is_punct the_punct.LeftParen (kind.Punct (step_punct op)) ≡ false
step_no_paren the_step.Increment = refl
step_no_paren the_step.Decrement = refl

-- An operand of `sizeof` doesn't begin as a type in parentheses.
pub no_type_ahead : (names : Names) (e : ExprTree Spot) (d : ℕ) (ts r : List Token) → 15 ≤ level e → Reads (outlines.expr names e) d ts r → type_ahead names ts ≡ false
no_type_ahead names (name n x) d ts r h y = other_ahead names (is_type names x ≡ false) (kind.Identifier x) (Some n) end d ts r refl y
no_type_ahead names (integer n v c) d ts r h y = other_ahead names (Unit {0}) (kind.Integer v c) (Some n) end d ts r refl y
no_type_ahead names (character n v) d ts r h y = other_ahead names (Unit {0}) (kind.Character v) (Some n) end d ts r refl y
no_type_ahead names (string n []) d ts r h y = absurd y.1
no_type_ahead names (string n (b ∷ bs)) d ts r h y = other_ahead names (Unit {0}) (kind.Str b) (Some n) (outlines.strings bs) d ts r refl y
no_type_ahead names (paren n e) d ts r h y =
    let t = next_token (Unit {0}) (kind.Punct the_punct.LeftParen) (Some n) (outlines.operand 1 e (outlines.expr names e) (outlines.punct the_punct.RightParen end)) d ts r y in
    let x = first_operand names e d (skip ts) t.after.0 t.after.2 in
    and_right (next_is the_punct.LeftParen ts) (starts_spec names (skip ts)) x.no_spec
no_type_ahead names (unary n op e) d ts r h y = other_ahead names (Unit {0}) (kind.Punct (unary_punct op)) (Some n) (after (outlines.expr names (unary n op e))) d ts r (unary_no_paren op) y
no_type_ahead names (binary n op a b) d ts r h y = absurd (omega (arith, op_most op))
no_type_ahead names (assign n op a b) d ts r h y = absurd (omega arith)
no_type_ahead names (step n op side.Before e) d ts r h y = other_ahead names (Unit {0}) (kind.Punct (step_punct op)) (Some n) (after (outlines.expr names (step n op side.Before e))) d ts r (step_no_paren op) y
no_type_ahead names (step n op side.After e) d ts r h y = no_type_ahead names e d ts y.0 (omega (arith, y.1)) (inside_sinks true (outlines.expr names e) d ts y.0 y.2)
no_type_ahead names (choice n c a b) d ts r h y = absurd (omega arith)
no_type_ahead names (comma n a b) d ts r h y = absurd (omega arith)
no_type_ahead names (call n f es) d ts r h y = no_type_ahead names f d ts y.2.0 (omega (arith, y.2.1)) (inside_sinks true (outlines.expr names f) d ts y.2.0 y.2.2)
no_type_ahead names (member n e x) d ts r h y = no_type_ahead names e d ts y.0 (omega (arith, y.1)) (inside_sinks true (outlines.expr names e) d ts y.0 y.2)
no_type_ahead names (arrow n e x) d ts r h y = no_type_ahead names e d ts y.0 (omega (arith, y.1)) (inside_sinks true (outlines.expr names e) d ts y.0 y.2)
no_type_ahead names (index n a i) d ts r h y = no_type_ahead names a d ts y.0 (omega (arith, y.1)) (inside_sinks true (outlines.expr names a) d ts y.0 y.2)
no_type_ahead names (cast n t e) d ts r h y = absurd (omega arith)
no_type_ahead names (size_expr n e) d ts r h y = other_ahead names (Unit {0}) (kind.Keyword the_keyword.Sizeof) (Some n) (after (outlines.expr names (size_expr n e))) d ts r refl y
no_type_ahead names (size_type n t) d ts r h y = other_ahead names (Unit {0}) (kind.Keyword the_keyword.Sizeof) (Some n) (after (outlines.expr names (size_type n t))) d ts r refl y

-- ---- Specifiers

pub word_starts : (v : SpecWord) → is_spec (spec_keyword (word_keyword v)) ≡ true
word_starts the_spec_word.Typedef = refl
word_starts the_spec_word.Extern = refl
word_starts the_spec_word.Static = refl
word_starts the_spec_word.Inline = refl
word_starts the_spec_word.Const = refl
word_starts the_spec_word.Void = refl
word_starts the_spec_word.Char = refl
word_starts the_spec_word.Short = refl
word_starts the_spec_word.Int = refl
word_starts the_spec_word.Long = refl
word_starts the_spec_word.Signed = refl
word_starts the_spec_word.Unsigned = refl
word_starts the_spec_word.Bool = refl

pub name_starts : (names : Names) (x : Name) → is_type names x ≡ true → is_spec (spec_kind names (kind.Identifier x)) ≡ true
name_starts names x e = rw e refl

spec_at : (names : Names) (h : Type 0) (k : TokenKind) (n : Option Spot) (i : Outline) (d : ℕ) (ts r : List Token) → is_spec (spec_kind names k) ≡ true → Reads (token h k n i) d ts r → starts_spec names ts ≡ true
spec_at names h k n i d ts r a x = at_token (starts_spec names) (λ c. is_spec (spec_kind names c)) (λ t us. refl) h k n i d ts r x ∙ a

pub first_spec : (names : Names) (q : SpecTree Spot) (d : ℕ) (ts r : List Token) → Reads (outlines.spec names q) d ts r → starts_spec names ts ≡ true
first_spec names (word n v) d ts r y = spec_at names (Unit {0}) (kind.Keyword (word_keyword v)) (Some n) end d ts r (word_starts v) y
first_spec names (named n x) d ts r y =
    let t = next_token (is_type names x ≡ true) (kind.Identifier x) (Some n) end d ts r y in
    spec_at names (is_type names x ≡ true) (kind.Identifier x) (Some n) end d ts r (name_starts names x t.holds) y
first_spec names (struct n tag ms) d ts r y = spec_at names (Unit {0}) (kind.Keyword the_keyword.Struct) (Some n) (after (inside (outlines.spec names (struct n tag ms)))) d ts y.0 refl y.2
first_spec names (enum n tag cs trailing) d ts r y = spec_at names (Unit {0}) (kind.Keyword the_keyword.Enum) (Some n) (after (inside (outlines.spec names (enum n tag cs trailing)))) d ts y.0 refl y.2

pub spec_stands : (names : Names) (q : SpecTree Spot) (d : ℕ) (ts r : List Token) → Reads (outlines.spec names q) d ts r → spot ts ≡ outlines.spec_spot q
spec_stands names (word n v) d ts r y = let t = next_token (Unit {0}) (kind.Keyword (word_keyword v)) (Some n) end d ts r y in t.at
spec_stands names (named n x) d ts r y = let t = next_token (is_type names x ≡ true) (kind.Identifier x) (Some n) end d ts r y in t.at
spec_stands names (struct n tag ms) d ts r y = let t = next_token (Unit {0}) (kind.Keyword the_keyword.Struct) (Some n) (after (inside (outlines.spec names (struct n tag ms)))) d ts y.0 y.2 in t.at
spec_stands names (enum n tag cs trailing) d ts r y = let t = next_token (Unit {0}) (kind.Keyword the_keyword.Enum) (Some n) (after (inside (outlines.spec names (enum n tag cs trailing)))) d ts y.0 y.2 in t.at

pub first_specs : (names : Names) (ss : SpecTrees Spot) (n : Spot) (d : ℕ) (ts r : List Token) → outlines.BeginAt ss n → Reads (outlines.specs names ss) d ts r → (starts_spec names ts ≡ true) × (spot ts ≡ n)
first_specs names no_specs n d ts r b y = absurd b
first_specs names (more_specs q ss) n d ts r b y = (first_spec names q d ts y.0 y.2, spec_stands names q d ts y.0 y.2 ∙ sym b)

-- a specifier is no punctuator
pub spec_not : (names : Names) (q : Punct) (ts : List Token) → starts_spec names ts ≡ true → next_is q ts ≡ false
spec_not names q ts x = by (next_is q ts) refl
  where
    by : (b : Bool) → next_is q ts ≡ b → next_is q ts ≡ false
    by false e = e
    by true e = let no : starts_spec names ts ≡ false = punct_spec names q ts e in absurd cc
