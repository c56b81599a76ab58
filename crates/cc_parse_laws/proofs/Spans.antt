-- What it means that tokens begin with an outline: one relation for spelling, order and depth together.
use Rattle.std.proofs.Common.{◌≡◌, ◌≤◌, refl, ℕ, zero, suc, Bool, true, false, List, [], ◌∷◌, arith, sym, subst}
use Rattle.cc_lex.specs.declared.token.Token.{Token}
use Rattle.cc_grammar.specs.Outline.{Outline, end, token, part, Written, AllHold, depth, deeper, spell, FitsSpot, Meets}

-- a part that counts leaves one less of the depth to what is in it
abbrev pub Inside : Bool → (ℕ → Type 0) → ℕ → Type 0
Inside false P d = P d
Inside true P zero = ⊥
Inside true P (suc d) = P d

-- The tokens begin with those of the outline, in order and no deeper than the number, and the others come after.
abbrev pub Reads : Outline → ℕ → List Token → List Token → Type 0
Reads end d ts r = ts ≡ r
Reads (token h k s o) d [] r = ⊥
Reads (token h k s o) d (t ∷ ts) r = h × (t.kind ≡ k) × FitsSpot s t.spot × Reads o d ts r
Reads (part c h i o) d ts r = (m : List Token) × h × Inside c (λ e. Reads i e ts m) d × Reads o d m r

inside_depth : (c : Bool) (P : ℕ → Type 0) (n : ℕ) → ((e : ℕ) → P e → n ≤ e) → (d : ℕ) → Inside c P d → deeper c n ≤ d
inside_depth false P n low d x = low d x
inside_depth true P n low zero x = absurd x
inside_depth true P n low (suc d) x = omega (arith, low d x)

-- what is read is no deeper
pub reads_depth : (o : Outline) (d : ℕ) (ts r : List Token) → Reads o d ts r → depth o ≤ d
reads_depth end d ts r x = omega arith
reads_depth (token h k s o) d [] r x = absurd x
reads_depth (token h k s o) d (t ∷ ts) r x = reads_depth o d ts r x.3
reads_depth (part c h i o) d ts r x = omega (arith, inside_depth c (λ e. Reads i e ts x.0) (depth i) (λ e y. reads_depth i e ts x.0 y) d x.2, reads_depth o d x.0 r x.3)

inside_fits : (c : Bool) (P : ℕ → Type 0) (n : ℕ) → ((e f : ℕ) → P e → n ≤ f → P f) → (d e : ℕ) → Inside c P d → deeper c n ≤ e → Inside c P e
inside_fits false P n fits d e x h = fits d e x h
inside_fits true P n fits zero e x h = absurd x
inside_fits true P n fits (suc d) zero x h = absurd (omega (arith, h))
inside_fits true P n fits (suc d) (suc e) x h = fits d e x (omega (arith, h))

-- what is read is read within its own depth
pub reads_within : (o : Outline) (d e : ℕ) (ts r : List Token) → Reads o d ts r → depth o ≤ e → Reads o e ts r
reads_within end d e ts r x h = x
reads_within (token a k s o) d e [] r x h = absurd x
reads_within (token a k s o) d e (t ∷ ts) r x h = (x.0, x.1, x.2, reads_within o d e ts r x.3 h)
reads_within (part c a i o) d e ts r x h =
    (x.0, x.1, inside_fits c (λ f. Reads i f ts x.0) (depth i) (λ f g y k. reads_within i f g ts x.0 y k) d e x.2 (omega (arith, h)), reads_within o d e x.0 r x.3 (omega (arith, h)))

pub inside_holds : (c : Bool) (P : ℕ → Type 0) (Q : Type 0) → ((e : ℕ) → P e → Q) → (d : ℕ) → Inside c P d → Q
inside_holds false P Q give d x = give d x
inside_holds true P Q give zero x = absurd x
inside_holds true P Q give (suc d) x = give d x

-- each condition holds of what is read
pub reads_hold : (o : Outline) (d : ℕ) (ts r : List Token) → Reads o d ts r → AllHold o
reads_hold end d ts r x = tt
reads_hold (token h k s o) d [] r x = absurd x
reads_hold (token h k s o) d (t ∷ ts) r x = (x.0, reads_hold o d ts r x.3)
reads_hold (part c h i o) d ts r x = (x.1, inside_holds c (λ e. Reads i e ts x.0) (AllHold i) (λ e y. reads_hold i e ts x.0 y) d x.2, reads_hold o d x.0 r x.3)

-- and the tokens are those of its spelling
pub reads_spell : (o : Outline) (d : ℕ) (ts r : List Token) (ws : List Written) → Reads o d ts r → Meets r ws → Meets ts (spell o ws)
reads_spell end d ts r ws x m = subst (λ us. Meets us ws) (sym x) m
reads_spell (token h k s o) d [] r ws x m = absurd x
reads_spell (token h k s o) d (t ∷ ts) r ws x m = (x.1, x.2, reads_spell o d ts r ws x.3 m)
reads_spell (part c h i o) d ts r ws x m =
    let after : Meets x.0 (spell o ws) = reads_spell o d x.0 r ws x.3 m in
    inside_holds c (λ e. Reads i e ts x.0) (Meets ts (spell i (spell o ws))) (λ e y. reads_spell i e ts x.0 (spell o ws) y after) d x.2

-- what is spelled, and the tokens after it
pub record Split (o : Outline) (d : ℕ) (ts : List Token) (ws : List Written) : Type 0 where
  pub rest : List Token
  pub reads : Reads o d ts rest
  pub others : Meets rest ws

inside_from : (c : Bool) (P : ℕ → Type 0) (n : ℕ) → ((e : ℕ) → n ≤ e → P e) → (d : ℕ) → deeper c n ≤ d → Inside c P d
inside_from false P n give d h = give d h
inside_from true P n give zero h = absurd (omega (arith, h))
inside_from true P n give (suc d) h = give d (omega (arith, h))

-- An orderly outline that is no deeper is read where it is spelled.
pub spelled_reads : (o : Outline) (d : ℕ) (ts : List Token) (ws : List Written) → AllHold o → depth o ≤ d → Meets ts (spell o ws) → Split o d ts ws
spelled_reads end d ts ws a h m = record { rest = ts; reads = refl; others = m }
spelled_reads (token b k s o) d [] ws a h m = absurd m
spelled_reads (token b k s o) d (t ∷ ts) ws a h m =
    let p = spelled_reads o d ts ws a.1 h m.2 in
    record { rest = p.rest; reads = (a.0, m.0, m.1, p.reads); others = p.others }
spelled_reads (part c b i o) d ts ws a h m =
    let p = spelled_reads i (depth i) ts (spell o ws) a.1 (omega arith) m in
    let q = spelled_reads o d p.rest ws a.2 (omega (arith, h)) p.others in
    record {
      rest = q.rest;
      reads = (p.rest, a.0, inside_from c (λ e. Reads i e ts p.rest) (depth i) (λ e k. reads_within i (depth i) e ts p.rest p.reads k) d (omega (arith, h)), q.reads);
      others = q.others;
    }
