-- The last steps of a production: what it gives, and the token that ends it.
use Rattle.std.proofs.Common.{◌≡◌, refl, ℕ, List, Ok, sym, ap, ◌∙◌, subst}
use Rattle.cc_lex.specs.declared.token.Token.{Token}
use Rattle.cc_lex.specs.declared.punct.Punct.{Punct}
use Rattle.cc_grammar.specs.Outline.{Outline, end, ◌▸◌}
use Rattle.cc_grammar.specs.Outlines as outlines
use Rattle.cc_grammar.specs.Outcomes.{and_then, pure, take}
use Rattle.cc_parse_laws.proofs.Spans.{Reads}
use Rattle.cc_parse_laws.proofs.Steps.{map_ok, take_reads}
use Rattle.cc_parse_laws.proofs.Lists.{Span}

-- what was read has this span
abbrev pub ReadsTo : {A : Type 0} → Span A → List Token → A × List Token → Type 0
ReadsTo P ts x = P x.0 ts x.1

-- what is there up to `m` begins an outline that goes on there
abbrev pub Leads : (Outline → Outline) → ℕ → List Token → List Token → Type 1
Leads i d ts m = (j : Outline) (r : List Token) → Reads j d m r → Reads (i j) d ts r

-- a token that ends a form
pub taken : {A : Type 0} (s : Punct) (a : A) (d : ℕ) (ts : List Token) (x : A × List Token) → and_then (take s ts) (λ z. pure a) ≡ Ok x → ((a, x.1) ≡ x) × Leads (outlines.punct s) d ts x.1
taken {A} s a d ts x e =
    let m = map_ok (take s ts) (λ z. a) x e in
    let same : m.0.1 ≡ x.1 = ap (λ (y : A × List Token). y.1) m.2 in
    (ap (λ us. (a, us)) (sym same) ∙ m.2, λ j r h. take_reads s j d ts r m.0 m.1 (subst (λ us. Reads j d us r) (sym same) h))

-- a last part
pub last_part : (i : Outline) (d : ℕ) (ts r : List Token) → Reads i d ts r → Reads (outlines.within i ▸ end) d ts r
last_part i d ts r s = (r, tt, s, refl)
