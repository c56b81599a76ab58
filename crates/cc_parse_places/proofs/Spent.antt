-- Readers that are given the beginning of an outline, and nothing behind it: they take all of it, and so they fail at no token.
-- The invariant: where an outline is begun and the text ends there, nothing is left of the text.
use Rattle.std.proofs.Common.{◌≡◌, ◌≤◌, refl, ℕ, zero, suc, Bool, true, false, List, [], ◌∷◌, Option, Ok, Err, arith, sym, ap, subst, ◌∙◌, ◌⊎◌, inl, inr}
use Rattle.cc_base.specs.declared.place.Spot.{Spot}
use Rattle.cc_lex.specs.declared.token.Token.{Token}
use Rattle.cc_lex.specs.declared.token.TokenKind.{TokenKind}
use Rattle.cc_lex.specs.declared.token.TokenKind.TheVariants as kind
use Rattle.cc_lex.specs.declared.punct.Punct.{Punct}
use Rattle.cc_grammar.specs.Outline.{Outline, end, token, part, FitsSpot}
use Rattle.cc_grammar.specs.Classes.{next_is, skip, spot}
use Rattle.cc_grammar.specs.Outcomes.{Outcome, Parser, and_then, pure}
use Rattle.cc_grammar.specs.Reading.{branch}
use Rattle.cc_parse_laws.proofs.Spans.{Inside, Reads, reads_depth, reads_within}
use Rattle.cc_parse_laws.proofs.Steps.{kind_punct}
use Rattle.cc_parse_laws.proofs.NextTokens.{NextKind}
use Rattle.cc_parse_places.proofs.Forks.{left}
use Rattle.cc_parse_places.proofs.Begun.{Cut, Begun}

abbrev pub Spent : {A : Type 0} → Outcome A → Type 0
Spent o = left o ≡ []

pub spent_bind : {A B : Type 0} (o : Outcome A) (f : A → Parser B) → Spent o → ((x : A) → Spent (f x [])) → Spent (and_then o f)
spent_bind (Ok x) f s n = subst (λ us. Spent (f x.0 us)) (sym s) (n x.0)
spent_bind (Err r) f s n = s

pub spent_map : {A B : Type 0} (o : Outcome A) (g : A → B) → Spent o → Spent (and_then o (λ x. pure (g x)))
spent_map o g s = spent_bind o (λ x. pure (g x)) s (λ x. refl)

pub spent_branch : {A : Type 0} (b : Bool) (p q : Parser A) (ts : List Token) → (b ≡ true → Spent (p ts)) → (b ≡ false → Spent (q ts)) → Spent (branch b p q ts)
spent_branch true p q ts x y = x refl
spent_branch false p q ts x y = y refl

pub spent_is : {A : Type 0} (o p : Outcome A) → o ≡ p → Spent p → Spent o
spent_is o p e s = ap left e ∙ s

abbrev pub HasNext : List Token → Type 0
HasNext [] = ⊥
HasNext (t ∷ ts) = Unit {0}

pub no_next : {X : Type 0} (ts : List Token) → HasNext ts → ts ≡ [] → X
no_next [] h e = absurd h
no_next (t ∷ ts) h e = absurd cc

-- ---- What is begun of an outline

-- nothing of a part, or some of it, and nothing of what comes behind it
abbrev pub Within : Bool → Type 0 → Outline → ℕ → List Token → Type 0
Within c h i d ts = (ts ≡ []) ⊎ (h × Inside c (λ e. Begun i e ts []) d)

reads_cut : (o : Outline) (d : ℕ) (ts r : List Token) → Reads o d ts r → Cut o d ts r
reads_cut end d ts r x = x
reads_cut (token h k s o) d [] r x = absurd x
reads_cut (token h k s o) d (t ∷ ts) r x = inr (x.0, x.1, x.2, reads_cut o d ts r x.3)
reads_cut (part c h i o) d ts r x = inr (inr (x.0, x.1, x.2, reads_cut o d x.0 r x.3))

-- what is read is begun
pub reads_begun : {o : Outline} {d : ℕ} {ts r : List Token} → Reads o d ts r → Begun o d ts r
reads_begun {o} {d} {ts} {r} x = record { cut = reads_cut o d ts r x }

inside_begun : (c : Bool) (i : Outline) (d : ℕ) (ts r : List Token) → Inside c (λ e. Cut i e ts r) d → Inside c (λ e. Begun i e ts r) d
inside_begun false i d ts r x = record { cut = x }
inside_begun true i zero ts r x = absurd x
inside_begun true i (suc d) ts r x = record { cut = x }

inside_read : (c : Bool) (i : Outline) (d : ℕ) (ts r : List Token) → Inside c (λ e. Reads i e ts r) d → Inside c (λ e. Begun i e ts r) d
inside_read false i d ts r x = reads_begun x
inside_read true i zero ts r x = absurd x
inside_read true i (suc d) ts r x = reads_begun x

-- it has nothing of its first token, or that
pub token_elim : {X : Type 0} {h : Type 0} {k : TokenKind} {s : Option Spot} {o : Outline} {d : ℕ} (ts : List Token) → Begun (token h k s o) d ts [] → (ts ≡ [] → X) → (h → NextKind k ts → FitsSpot s (spot ts) → Begun o d (skip ts) [] → X) → X
token_elim {X} {h} {k} {s} {o} {d} ts b nil there = by ts b.cut nil there
  where
    by : (ts : List Token) → Cut (token h k s o) d ts [] → (ts ≡ [] → X) → (h → NextKind k ts → FitsSpot s (spot ts) → Begun o d (skip ts) [] → X) → X
    by [] x f g = f x
    by (t ∷ ts) (inl e) f g = f e
    by (t ∷ ts) (inr x) f g = g x.0 x.1 x.2 (record { cut = x.3 })

-- nothing but some of its first part, or all of that and something behind it
pub part_elim : {X : Type 0} {c : Bool} {h : Type 0} {i o : Outline} {d : ℕ} (ts : List Token) → Begun (part c h i o) d ts [] → (Within c h i d ts → X) → ((m : List Token) → HasNext m → h → Inside c (λ e. Reads i e ts m) d → Begun o d m [] → X) → X
part_elim {X} {c} {h} {i} {o} {d} ts b cut past = by b.cut
  where
    behind : (m : List Token) → h → Inside c (λ e. Reads i e ts m) d → Cut o d m [] → X
    behind [] a x y = cut (inr (a, inside_read c i d ts [] x))
    behind (t ∷ m) a x y = past (t ∷ m) tt a x (record { cut = y })

    by : Cut (part c h i o) d ts [] → X
    by (inl e) = cut (inl e)
    by (inr (inl x)) = cut (inr (x.0, inside_begun c i d ts [] x.1))
    by (inr (inr x)) = behind x.0 x.1 x.2 x.3

-- a last part
pub last_within : {c : Bool} {h : Type 0} {i : Outline} {d : ℕ} (ts : List Token) → Begun (part c h i end) d ts [] → Within c h i d ts
last_within {c} {h} {i} {d} ts b = part_elim ts b (λ x. x) (λ m more a x rest. no_next m more rest.cut)

-- ---- Depth

inside_grows : (c : Bool) (P Q : ℕ → Type 0) → ((e f : ℕ) → e ≤ f → P e → Q f) → (d e : ℕ) → d ≤ e → Inside c P d → Inside c Q e
inside_grows false P Q grow d e h x = grow d e h x
inside_grows true P Q grow zero e h x = absurd x
inside_grows true P Q grow (suc d) zero h x = absurd (omega (arith, h))
inside_grows true P Q grow (suc d) (suc e) h x = grow d e (omega (arith, h)) x

cut_grows : (o : Outline) (d e : ℕ) (ts r : List Token) → d ≤ e → Cut o d ts r → Cut o e ts r
cut_grows end d e ts r h x = x
cut_grows (token a k s o) d e [] r h x = x
cut_grows (token a k s o) d e (t ∷ ts) r h (inl x) = inl x
cut_grows (token a k s o) d e (t ∷ ts) r h (inr x) = inr (x.0, x.1, x.2, cut_grows o d e ts r h x.3)
cut_grows (part c a i o) d e ts r h (inl x) = inl x
cut_grows (part c a i o) d e ts r h (inr (inl x)) = inr (inl (x.0, inside_grows c (λ f. Cut i f ts r) (λ f. Cut i f ts r) (λ f g k y. cut_grows i f g ts r k y) d e h x.1))
cut_grows (part c a i o) d e ts r h (inr (inr x)) =
    inr (inr (x.0, x.1, inside_grows c (λ f. Reads i f ts x.0) (λ f. Reads i f ts x.0) (λ f g k y. reads_within i f g ts x.0 y (omega (arith, k, reads_depth i f ts x.0 y))) d e h x.2, cut_grows o d e x.0 r h x.3))

-- what is begun in a counted node is begun at the node's own depth too
pub begun_sinks : (c : Bool) (i : Outline) (d : ℕ) (ts r : List Token) → Inside c (λ e. Begun i e ts r) d → Begun i d ts r
begun_sinks false i d ts r x = x
begun_sinks true i zero ts r x = absurd x
begun_sinks true i (suc d) ts r x = record { cut = cut_grows i d (suc d) ts r (omega arith) x.cut }

-- ---- The next token

pub at_kind : {B : Type 0} (f : List Token → B) (g : TokenKind → B) → ((t : Token) (ts : List Token) → f (t ∷ ts) ≡ g t.kind) → (k : TokenKind) (ts : List Token) → NextKind k ts → f ts ≡ g k
at_kind f g same k [] e = absurd e
at_kind f g same k (t ∷ ts) e = same t ts ∙ ap g e

pub next_kind_punct : (s : Punct) (ts : List Token) → NextKind (kind.Punct s) ts → next_is s ts ≡ true
next_kind_punct s [] e = absurd e
next_kind_punct s (t ∷ ts) e = kind_punct s t.kind e
