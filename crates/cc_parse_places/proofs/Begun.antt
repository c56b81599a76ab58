-- Outlines that are begun: the tokens from some on are the first ones of an outline, which is cut off where the others begin.
-- It is orderly as far as it is there, and no deeper there. The invariant of each reader that fails: it has begun what it reads,
-- and it fails where that is cut off. What is missing may be anything, but of a kind that lets the whole stand where it stands.
use Rattle.std.proofs.Common.{◌≡◌, ℕ, zero, suc, Bool, true, false, List, [], ◌∷◌, Option, sym, subst, ◌⊎◌, inl, inr}
use Rattle.cc_base.specs.declared.place.Spot.{Spot}
use Rattle.cc_lex.specs.declared.token.Token.{Token}
use Rattle.cc_lex.specs.declared.token.TokenKind.{TokenKind}
use Rattle.cc_lex.specs.declared.token.TokenKind.TheVariants as kind
use Rattle.cc_lex.specs.declared.keyword.Keyword.{Keyword}
use Rattle.cc_lex.specs.declared.punct.Punct.{Punct}
use Rattle.cc_grammar.specs.Outline.{Outline, end, token, part, FitsSpot}
use Rattle.cc_grammar.specs.Outlines.{within}
use Rattle.cc_grammar.specs.Classes.{next_is, next_is_keyword, skip, spot}
use Rattle.cc_parse_laws.proofs.Spans.{Inside, Reads}
use Rattle.cc_parse_laws.proofs.Steps.{punct_kind, keyword_kind}
use Rattle.cc_parse_laws.proofs.NextTokens.{NextKind}

-- nothing of it is there; or it is cut off in its first token's or part's others; or in its first part
abbrev pub Cut : Outline → ℕ → List Token → List Token → Type 0
Cut end d ts r = ts ≡ r
Cut (token h k s o) d [] r = [] ≡ r
Cut (token h k s o) d (t ∷ ts) r = ((t ∷ ts) ≡ r) ⊎ (h × (t.kind ≡ k) × FitsSpot s t.spot × Cut o d ts r)
Cut (part c h i o) d ts r = (ts ≡ r) ⊎ ((h × Inside c (λ e. Cut i e ts r) d) ⊎ ((m : List Token) × h × Inside c (λ e. Reads i e ts m) d × Cut o d m r))

pub record Begun (o : Outline) (d : ℕ) (ts r : List Token) : Type 0 where
  pub cut : Cut o d ts r

-- ---- How it is begun

pub cut_here : (o : Outline) (d : ℕ) (ts r : List Token) → ts ≡ r → Cut o d ts r
cut_here end d ts r e = e
cut_here (token h k s o) d [] r e = e
cut_here (token h k s o) d (t ∷ ts) r e = inl e
cut_here (part c h i o) d ts r e = inl e

-- nothing of it is there
pub at : {o : Outline} {d : ℕ} {ts r : List Token} → ts ≡ r → Begun o d ts r
at {o} {d} {ts} {r} e = record { cut = cut_here o d ts r e }

cut_token : (h : Type 0) (k : TokenKind) (s : Option Spot) (o : Outline) (d : ℕ) (ts r : List Token) → h → NextKind k ts → FitsSpot s (spot ts) → Cut o d (skip ts) r → Cut (token h k s o) d ts r
cut_token h k s o d [] r a e st x = absurd e
cut_token h k s o d (t ∷ ts) r a e st x = inr (a, e, st, x)

-- a token is there
pub token_then : {h : Type 0} {k : TokenKind} {s : Option Spot} {o : Outline} {d : ℕ} {ts r : List Token} → h → NextKind k ts → FitsSpot s (spot ts) → Begun o d (skip ts) r → Begun (token h k s o) d ts r
token_then {h} {k} {s} {o} {d} {ts} {r} a e st x = record { cut = cut_token h k s o d ts r a e st x.cut }

read_then : (h : Type 0) (k : TokenKind) (s : Option Spot) (o : Outline) (d : ℕ) (ts m r : List Token) → Reads (token h k s end) d ts m → Cut o d m r → Cut (token h k s o) d ts r
read_then h k s o d [] m r a x = absurd a
read_then h k s o d (t ∷ ts) m r a x = inr (a.0, a.1, a.2, subst (λ us. Cut o d us r) (sym a.3) x)

-- a token that was read is there
pub token_read : {h : Type 0} {k : TokenKind} {s : Option Spot} {o : Outline} {d : ℕ} {ts r : List Token} (m : List Token) → Reads (token h k s end) d ts m → Begun o d m r → Begun (token h k s o) d ts r
token_read {h} {k} {s} {o} {d} {ts} {r} m a x = record { cut = read_then h k s o d ts m r a x.cut }

pub next_punct : (s : Punct) (ts : List Token) → next_is s ts ≡ true → NextKind (kind.Punct s) ts
next_punct s [] e = absurd cc
next_punct s (t ∷ ts) e = punct_kind s t.kind e

pub next_keyword : (w : Keyword) (ts : List Token) → next_is_keyword w ts ≡ true → NextKind (kind.Keyword w) ts
next_keyword w [] e = absurd cc
next_keyword w (t ∷ ts) e = keyword_kind w t.kind e

pub punct_then : {s : Punct} {n : Option Spot} {o : Outline} {d : ℕ} {ts r : List Token} → next_is s ts ≡ true → FitsSpot n (spot ts) → Begun o d (skip ts) r → Begun (token (Unit {0}) (kind.Punct s) n o) d ts r
punct_then {s} {n} {o} {d} {ts} e st x = token_then tt (next_punct s ts e) st x

pub keyword_then : {w : Keyword} {n : Option Spot} {o : Outline} {d : ℕ} {ts r : List Token} → next_is_keyword w ts ≡ true → FitsSpot n (spot ts) → Begun o d (skip ts) r → Begun (token (Unit {0}) (kind.Keyword w) n o) d ts r
keyword_then {w} {n} {o} {d} {ts} e st x = token_then tt (next_keyword w ts e) st x

inside_cut : (c : Bool) (i : Outline) (d : ℕ) (ts r : List Token) → Inside c (λ e. Begun i e ts r) d → Inside c (λ e. Cut i e ts r) d
inside_cut false i d ts r x = x.cut
inside_cut true i zero ts r x = absurd x
inside_cut true i (suc d) ts r x = x.cut

-- it is cut off in its first part
pub part_in : {c : Bool} {h : Type 0} {i o : Outline} {d : ℕ} {ts r : List Token} → h → Inside c (λ e. Begun i e ts r) d → Begun (part c h i o) d ts r
part_in {c} {h} {i} {o} {d} {ts} {r} a x = record { cut = inr (inl (a, inside_cut c i d ts r x)) }

-- its first part is there
pub part_past : {c : Bool} {h : Type 0} {i o : Outline} {d : ℕ} {ts r : List Token} (m : List Token) → h → Inside c (λ e. Reads i e ts m) d → Begun o d m r → Begun (part c h i o) d ts r
part_past m a x y = record { cut = inr (inr (m, a, x, y.cut)) }

pub within_in : {i o : Outline} {d : ℕ} {ts r : List Token} → Begun i d ts r → Begun (within i o) d ts r
within_in x = part_in {c = false} tt x

pub within_past : {i o : Outline} {d : ℕ} {ts r : List Token} (m : List Token) → Reads i d ts m → Begun o d m r → Begun (within i o) d ts r
within_past m x y = part_past {c = false} m tt x y

-- a part of which nothing is there, or that is begun
abbrev pub Part : Bool → Outline → ℕ → List Token → List Token → Type 0
Part c i d ts r = (ts ≡ r) ⊎ Inside c (λ e. Begun i e ts r) d

pub part_of : {c : Bool} {h : Type 0} {i o : Outline} {d : ℕ} {ts r : List Token} → h → Part c i d ts r → Begun (part c h i o) d ts r
part_of a (inl e) = at e
part_of a (inr x) = part_in a x

-- ---- One outline behind another

infixr 5 ◌⊕◌
abbrev pub ◌⊕◌ : Outline → Outline → Outline
end ⊕ j = j
token h k s o ⊕ j = token h k s (o ⊕ j)
part c h i o ⊕ j = part c h i (o ⊕ j)

cut_behind : (o j : Outline) (d : ℕ) (ts m r : List Token) → Reads o d ts m → Cut j d m r → Cut (o ⊕ j) d ts r
cut_behind end j d ts m r a x = subst (λ us. Cut j d us r) (sym a) x
cut_behind (token h k s o) j d [] m r a x = absurd a
cut_behind (token h k s o) j d (t ∷ ts) m r a x = inr (a.0, a.1, a.2, cut_behind o j d ts m r a.3 x)
cut_behind (part c h i o) j d ts m r a x = inr (inr (a.0, a.1, a.2, cut_behind o j d a.0 m r a.3 x))

-- what was read is there
pub read_past : {j : Outline} {d : ℕ} {ts r : List Token} (o : Outline) (m : List Token) → Reads o d ts m → Begun j d m r → Begun (o ⊕ j) d ts r
read_past {j} {d} {ts} {r} o m a x = record { cut = cut_behind o j d ts m r a x.cut }
