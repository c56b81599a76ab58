-- What an expression that is begun begins with.
use Rattle.std.proofs.Common.{◌≡◌, ◌≤◌, refl, ℕ, true, false, List, [], ◌∷◌, Option, arith, ap, ◌∙◌, inl, inr}
use Rattle.cc_base.specs.declared.place.Spot.{Spot}
use Rattle.cc_lex.specs.declared.token.Token.{Token}
use Rattle.cc_lex.specs.declared.token.TokenKind.{TokenKind}
use Rattle.cc_lex.specs.declared.token.TokenKind.TheVariants as kind
use Rattle.cc_lex.specs.declared.keyword.Keyword.TheVariants as the_keyword
use Rattle.cc_lex.specs.declared.punct.Punct.TheVariants as the_punct
use Rattle.cc_tree.specs.declared.operator.Side.TheVariants as side
use Rattle.cc_tree.specs.Trees.{ExprTree, name, integer, character, string, paren, unary, binary, assign, step, choice, comma, call, member, arrow, index, cast, size_expr, size_type}
use Rattle.cc_grammar.specs.Levels.{level, unary_punct, step_punct}
use Rattle.cc_grammar.specs.Names.{Names}
use Rattle.cc_grammar.specs.Outline.{Outline, token, part}
use Rattle.cc_grammar.specs.Outlines as outlines
use Rattle.cc_grammar.specs.Classes.{next_is, skip, is_punct, start, start_kind, starts_spec, is_spec, spec_kind}
use Rattle.std.proofs.lemmas.Bool.{and_left, and_right}
use Rattle.cc_parse_laws.proofs.NextTokens.{NextKind}
use Rattle.cc_parse_laws.proofs.Firsts.{OpensExpr, opens, first_operand, not_named, unary_opens, step_opens, op_most, type_ahead, no_type_ahead, inside_sinks, unary_no_paren, step_no_paren}
use Rattle.cc_parse_places.proofs.Begun.{Begun}
use Rattle.cc_parse_places.proofs.Spent.{HasNext, no_next, Within, token_elim, part_elim, begun_sinks, at_kind}

opens_by : (names : Names) (k : TokenKind) (ts : List Token) → opens (start_kind k) ≡ true → is_spec (spec_kind names k) ≡ false → NextKind k ts → OpensExpr names ts
opens_by names k ts a b x = record {
  begins = ap opens (at_kind start start_kind (λ t us. refl) k ts x) ∙ a;
  no_spec = at_kind (starts_spec names) (λ c. is_spec (spec_kind names c)) (λ t us. refl) k ts x ∙ b;
}

token_opens : (names : Names) {h : Type 0} (k : TokenKind) {n : Option Spot} {i : Outline} {d : ℕ} (ts : List Token) → (h → opens (start_kind k) ≡ true) → (h → is_spec (spec_kind names k) ≡ false) → HasNext ts → Begun (token h k n i) d ts [] → OpensExpr names ts
token_opens names k ts a b more x = token_elim ts x (no_next ts more) (λ h next st rest. opens_by names k ts (a h) (b h) next)

-- an operand that stands first, begun or whole
left_opens : (names : Names) {h : Type 0} {i : Outline} (e : ExprTree Spot) (d : ℕ) (ts : List Token) → HasNext ts → (Begun (outlines.expr names e) d ts [] → OpensExpr names ts) → Begun (part true h (outlines.expr names e) i) d ts [] → OpensExpr names ts
left_opens names e d ts more rec x = part_elim ts x (within rec) (λ m next h y rest. first_operand names e d ts m y)
  where
    within : {h : Type 0} → (Begun (outlines.expr names e) d ts [] → OpensExpr names ts) → Within true h (outlines.expr names e) d ts → OpensExpr names ts
    within rec (inl z) = no_next ts more z
    within rec (inr z) = rec (begun_sinks true (outlines.expr names e) d ts [] z.1)

pub begun_opens : (names : Names) (e : ExprTree Spot) (d : ℕ) (ts : List Token) → HasNext ts → Begun (outlines.expr names e) d ts [] → OpensExpr names ts
begun_opens names (name n x) d ts more y = token_opens names (kind.Identifier x) ts (λ h. refl) (λ h. not_named names x h) more y
begun_opens names (integer n v c) d ts more y = token_opens names (kind.Integer v c) ts (λ h. refl) (λ h. refl) more y
begun_opens names (character n v) d ts more y = token_opens names (kind.Character v) ts (λ h. refl) (λ h. refl) more y
begun_opens names (string n []) d ts more y = part_elim ts y (λ x. nothing x) (λ m next h z rest. absurd h)
  where
    nothing : {i : Outline} → Within false ⊥ i d ts → OpensExpr names ts
    nothing (inl e) = no_next ts more e
    nothing (inr x) = absurd x.0
begun_opens names (string n (b ∷ bs)) d ts more y = token_opens names (kind.Str b) ts (λ h. refl) (λ h. refl) more y
begun_opens names (paren n e) d ts more y = token_opens names (kind.Punct the_punct.LeftParen) ts (λ h. refl) (λ h. refl) more y
begun_opens names (unary n op e) d ts more y = token_opens names (kind.Punct (unary_punct op)) ts (λ h. unary_opens op) (λ h. refl) more y
begun_opens names (binary n op a b) d ts more y = left_opens names a d ts more (λ x. begun_opens names a d ts more x) y
begun_opens names (assign n op a b) d ts more y = left_opens names a d ts more (λ x. begun_opens names a d ts more x) y
begun_opens names (step n op side.Before e) d ts more y = token_opens names (kind.Punct (step_punct op)) ts (λ h. step_opens op) (λ h. refl) more y
begun_opens names (step n op side.After e) d ts more y = left_opens names e d ts more (λ x. begun_opens names e d ts more x) y
begun_opens names (choice n c a b) d ts more y = left_opens names c d ts more (λ x. begun_opens names c d ts more x) y
begun_opens names (comma n a b) d ts more y = left_opens names a d ts more (λ x. begun_opens names a d ts more x) y
begun_opens names (call n f es) d ts more y = part_elim ts y (λ x. within (λ z. begun_opens names f d ts more z) x) (λ m next h z rest. first_operand names f d ts z.0 z.2)
  where
    within : {h g : Type 0} {i : Outline} → (Begun (outlines.expr names f) d ts [] → OpensExpr names ts) → Within false h (part true g (outlines.expr names f) i) d ts → OpensExpr names ts
    within rec (inl e) = no_next ts more e
    within rec (inr x) = left_opens names f d ts more rec x.1
begun_opens names (member n e x) d ts more y = left_opens names e d ts more (λ z. begun_opens names e d ts more z) y
begun_opens names (arrow n e x) d ts more y = left_opens names e d ts more (λ z. begun_opens names e d ts more z) y
begun_opens names (index n a i) d ts more y = left_opens names a d ts more (λ x. begun_opens names a d ts more x) y
begun_opens names (cast n t e) d ts more y = token_opens names (kind.Punct the_punct.LeftParen) ts (λ h. refl) (λ h. refl) more y
begun_opens names (size_expr n e) d ts more y = token_opens names (kind.Keyword the_keyword.Sizeof) ts (λ h. refl) (λ h. refl) more y
begun_opens names (size_type n t) d ts more y = token_opens names (kind.Keyword the_keyword.Sizeof) ts (λ h. refl) (λ h. refl) more y

-- ---- An operand of `sizeof`

none_ahead : (names : Names) (ts : List Token) → ts ≡ [] → type_ahead names ts ≡ false
none_ahead names ts e = ap (type_ahead names) e

pub begun_no_spec : (names : Names) (e : ExprTree Spot) (d : ℕ) (ts : List Token) → Begun (outlines.expr names e) d ts [] → starts_spec names ts ≡ false
begun_no_spec names e d [] x = refl
begun_no_spec names e d (t ∷ ts) x = (begun_opens names e d (t ∷ ts) tt x).no_spec

pub operand_no_spec : (names : Names) {h : Type 0} (e : ExprTree Spot) (d : ℕ) (ts : List Token) → Within true h (outlines.expr names e) d ts → starts_spec names ts ≡ false
operand_no_spec names e d ts (inl z) = ap (starts_spec names) z
operand_no_spec names e d ts (inr x) = begun_no_spec names e d ts (begun_sinks true (outlines.expr names e) d ts [] x.1)

token_ahead : (names : Names) {h : Type 0} (k : TokenKind) {n : Option Spot} {i : Outline} {d : ℕ} (ts : List Token) → is_punct the_punct.LeftParen k ≡ false → Begun (token h k n i) d ts [] → type_ahead names ts ≡ false
token_ahead names k ts a x = token_elim ts x (none_ahead names ts) (λ h next st rest. and_left (next_is the_punct.LeftParen ts) (starts_spec names (skip ts)) (at_kind (next_is the_punct.LeftParen) (is_punct the_punct.LeftParen) (λ t us. refl) k ts next ∙ a))

left_ahead : (names : Names) {h : Type 0} {i : Outline} (e : ExprTree Spot) (d : ℕ) (ts : List Token) → (h → 15 ≤ level e) → (15 ≤ level e → Begun (outlines.expr names e) d ts [] → type_ahead names ts ≡ false) → Begun (part true h (outlines.expr names e) i) d ts [] → type_ahead names ts ≡ false
left_ahead names e d ts tight rec x = part_elim ts x (within tight) (λ m next h y rest. no_type_ahead names e d ts m (tight h) (inside_sinks true (outlines.expr names e) d ts m y))
  where
    within : {h : Type 0} → (h → 15 ≤ level e) → Within true h (outlines.expr names e) d ts → type_ahead names ts ≡ false
    within tight (inl z) = none_ahead names ts z
    within tight (inr z) = rec (tight z.0) (begun_sinks true (outlines.expr names e) d ts [] z.1)

pub begun_ahead : (names : Names) (e : ExprTree Spot) (d : ℕ) (ts : List Token) → 15 ≤ level e → Begun (outlines.expr names e) d ts [] → type_ahead names ts ≡ false
begun_ahead names (name n x) d ts l y = token_ahead names (kind.Identifier x) ts refl y
begun_ahead names (integer n v c) d ts l y = token_ahead names (kind.Integer v c) ts refl y
begun_ahead names (character n v) d ts l y = token_ahead names (kind.Character v) ts refl y
begun_ahead names (string n []) d ts l y = part_elim ts y (λ x. nothing x) (λ m next h z rest. absurd h)
  where
    nothing : {i : Outline} → Within false ⊥ i d ts → type_ahead names ts ≡ false
    nothing (inl e) = none_ahead names ts e
    nothing (inr x) = absurd x.0
begun_ahead names (string n (b ∷ bs)) d ts l y = token_ahead names (kind.Str b) ts refl y
begun_ahead names (paren n e) d ts l y = token_elim ts y (none_ahead names ts) (λ h next st rest. and_right (next_is the_punct.LeftParen ts) (starts_spec names (skip ts)) (part_elim (skip ts) rest (operand_no_spec names e d (skip ts)) (λ m more g z last. (first_operand names e d (skip ts) m z).no_spec)))
begun_ahead names (unary n op e) d ts l y = token_ahead names (kind.Punct (unary_punct op)) ts (unary_no_paren op) y
begun_ahead names (binary n op a b) d ts l y = absurd (omega (arith, l, op_most op))
begun_ahead names (assign n op a b) d ts l y = absurd (omega (arith, l))
begun_ahead names (step n op side.Before e) d ts l y = token_ahead names (kind.Punct (step_punct op)) ts (step_no_paren op) y
begun_ahead names (step n op side.After e) d ts l y = left_ahead names e d ts (λ h. omega (arith, h)) (λ g x. begun_ahead names e d ts g x) y
begun_ahead names (choice n c a b) d ts l y = absurd (omega (arith, l))
begun_ahead names (comma n a b) d ts l y = absurd (omega (arith, l))
begun_ahead names (call n f es) d ts l y = part_elim ts y (λ x. within (λ g z. begun_ahead names f d ts g z) (λ h. omega (arith, h)) x) (λ m next h z rest. no_type_ahead names f d ts z.0 (omega (arith, z.1)) (inside_sinks true (outlines.expr names f) d ts z.0 z.2))
  where
    within : {h g : Type 0} {i : Outline} → (15 ≤ level f → Begun (outlines.expr names f) d ts [] → type_ahead names ts ≡ false) → (g → 15 ≤ level f) → Within false h (part true g (outlines.expr names f) i) d ts → type_ahead names ts ≡ false
    within rec tight (inl e) = none_ahead names ts e
    within rec tight (inr x) = left_ahead names f d ts tight rec x.1
begun_ahead names (member n e x) d ts l y = left_ahead names e d ts (λ h. omega (arith, h)) (λ g z. begun_ahead names e d ts g z) y
begun_ahead names (arrow n e x) d ts l y = left_ahead names e d ts (λ h. omega (arith, h)) (λ g z. begun_ahead names e d ts g z) y
begun_ahead names (index n a i) d ts l y = left_ahead names a d ts (λ h. omega (arith, h)) (λ g x. begun_ahead names a d ts g x) y
begun_ahead names (cast n t e) d ts l y = absurd (omega (arith, l))
begun_ahead names (size_expr n e) d ts l y = token_ahead names (kind.Keyword the_keyword.Sizeof) ts refl y
begun_ahead names (size_type n t) d ts l y = token_ahead names (kind.Keyword the_keyword.Sizeof) ts refl y
