-- What is begun is read as the first tokens of its outline, and so tokens up to a fault are the spelling of a cut-off tree.
use Rattle.std.proofs.Common.{◌≡◌, ◌≤◌, ◌+◌, ◌-◌, refl, ℕ, zero, suc, Bool, true, false, List, [], ◌∷◌, ◌++◌, length, take, None, arith, sym, ap, ◌∙◌, subst, inl, inr, length-append, append_assoc}
use Rattle.std.proofs.Math.Seq.{take-append_seam}
use Rattle.cc_base.specs.declared.place.Spot.{Spot}
use Rattle.cc_lex.specs.declared.token.Token.{Token}
use Rattle.cc_tree.specs.Trees.{ExternalTree}
use Rattle.cc_grammar.specs.Outline.{Outline, end, token, part, Meets, Written, size, first, spell}
use Rattle.cc_grammar.specs.Outlines as outlines
use Rattle.cc_grammar.specs.CutOff.{CutOff}
use Rattle.cc_parse_laws.proofs.Spans.{Inside, Reads, reads_hold, reads_depth, reads_spell, inside_holds}
use Rattle.cc_parse_laws.proofs.Steps.{reads_length}
use Rattle.cc_parse_places.proofs.Forks.{Ending, ending_of}
use Rattle.cc_parse_places.proofs.Begun.{Cut, Begun}

pub inside_maps : (c : Bool) (P Q : ℕ → Type 0) (d : ℕ) → ((e : ℕ) → P e → Q e) → Inside c P d → Inside c Q d
inside_maps false P Q d f x = f d x
inside_maps true P Q zero f x = x
inside_maps true P Q (suc d) f x = f d x

reads_nothing : (i : Outline) (d : ℕ) (ts r : List Token) → size i ≡ 0 → Reads i d ts r → ts ≡ r
reads_nothing end d ts r e x = x
reads_nothing (token h k s i) d ts r e x = absurd (omega (arith, e))
reads_nothing (part c h i j) d ts r e x =
    inside_holds c (λ f. Reads i f ts x.0) (ts ≡ x.0) (λ f y. reads_nothing i f ts x.0 (omega (arith, e)) y) d x.2 ∙ reads_nothing j d x.0 r (omega (arith, e)) x.3

reads_all : (i : Outline) (n d : ℕ) (ts r : List Token) → size i ≤ n → Reads i d ts r → Reads (first n i) d ts r
reads_all i zero d ts r h x = reads_nothing i d ts r (omega (arith, h)) x
reads_all end (suc n) d ts r h x = x
reads_all (token a k s i) (suc n) d [] r h x = absurd x
reads_all (token a k s i) (suc n) d (t ∷ ts) r h x = (x.0, x.1, x.2, reads_all i n d ts r (omega (arith, h)) x.3)
reads_all (part c a i j) (suc n) d ts r h x =
    (x.0, x.1, inside_maps c (λ e. Reads i e ts x.0) (λ e. Reads (first (suc n) i) e ts x.0) d (λ e y. reads_all i (suc n) e ts x.0 (omega (arith, h)) y) x.2, reads_all j (suc n - size i) d x.0 r (omega (arith, h)) x.3)

-- as many of the first tokens are read, to where the others begin
abbrev FirstOnes : Outline → ℕ → List Token → List Token → Type 0
FirstOnes i d ts r = (n : ℕ) × (n ≤ size i) × Reads (first n i) d ts r

inside_first : (c : Bool) (i : Outline) (d : ℕ) (ts r : List Token) → ((e : ℕ) → Cut i e ts r → FirstOnes i e ts r) → Inside c (λ e. Cut i e ts r) d → (n : ℕ) × (n ≤ size i) × Inside c (λ e. Reads (first n i) e ts r) d
inside_first false i d ts r f x = f d x
inside_first true i zero ts r f x = absurd x
inside_first true i (suc d) ts r f x = f d x

part_first : (c : Bool) (h : Type 0) (i j : Outline) (d : ℕ) (ts r : List Token) (n : ℕ) → n ≤ size i → h → Inside c (λ e. Reads (first n i) e ts r) d → FirstOnes (part c h i j) d ts r
part_first c h i j d ts r zero l a x = (0, omega arith, inside_holds c (λ e. Reads end e ts r) (ts ≡ r) (λ e y. y) d x)
part_first c h i j d ts r (suc n) l a x =
    let none : 0 ≡ suc n - size i = omega (arith, l) in
    (suc n, omega (arith, l), (r, a, x, subst (λ m. Reads (first m j) d r r) none refl))

part_then : (c : Bool) (h : Type 0) (i j : Outline) (d : ℕ) (ts m r : List Token) (n k : ℕ) → k ≡ size i + n → n ≤ size j → h → Inside c (λ e. Reads i e ts m) d → Reads (first n j) d m r → FirstOnes (part c h i j) d ts r
part_then c h i j d ts m r n zero e l a x y =
    let none : n ≡ 0 = omega (arith, e) in
    let rest : m ≡ r = subst (λ z. Reads (first z j) d m r) none y in
    (0, omega arith, inside_holds c (λ f. Reads i f ts m) (ts ≡ m) (λ f z. reads_nothing i f ts m (omega (arith, e)) z) d x ∙ rest)
part_then c h i j d ts m r n (suc k) e l a x y =
    let rest : n ≡ suc k - size i = omega (arith, e) in
    (suc k, omega (arith, e, l), (m, a, inside_maps c (λ f. Reads i f ts m) (λ f. Reads (first (suc k) i) f ts m) d (λ f z. reads_all i (suc k) f ts m (omega (arith, e)) z) x, subst (λ z. Reads (first z j) d m r) rest y))

cut_first : (i : Outline) (d : ℕ) (ts r : List Token) → Cut i d ts r → FirstOnes i d ts r
cut_first end d ts r x = (0, omega arith, x)
cut_first (token h k s i) d [] r x = (0, omega arith, x)
cut_first (token h k s i) d (t ∷ ts) r (inl e) = (0, omega arith, e)
cut_first (token h k s i) d (t ∷ ts) r (inr x) = let q = cut_first i d ts r x.3 in (suc q.0, omega (arith, q.1), (x.0, x.1, x.2, q.2))
cut_first (part c h i j) d ts r (inl e) = (0, omega arith, e)
cut_first (part c h i j) d ts r (inr (inl x)) = let q = inside_first c i d ts r (λ e y. cut_first i e ts r y) x.1 in part_first c h i j d ts r q.0 q.1 x.0 q.2
cut_first (part c h i j) d ts r (inr (inr x)) = let q = cut_first j d x.0 r x.3 in part_then c h i j d ts x.0 r q.0 (size i + q.0) refl q.1 x.1 x.2 q.2

-- ---- The tokens before the others

reads_ending : (i : Outline) (d : ℕ) (ts r : List Token) → Reads i d ts r → Ending ts r
reads_ending end d ts r x = ([], x)
reads_ending (token h k s i) d [] r x = absurd x
reads_ending (token h k s i) d (t ∷ ts) r x = let q = reads_ending i d ts r x.3 in (t ∷ q.0, ap (λ us. t ∷ us) q.1)
reads_ending (part c h i j) d ts r x = ending_of ts x.0 r (inside_holds c (λ e. Reads i e ts x.0) (Ending ts x.0) (λ e y. reads_ending i e ts x.0 y) d x.2) (reads_ending j d x.0 r x.3)

-- tokens as they are written
abbrev as_written : List Token → List Written
as_written [] = []
as_written (t ∷ ts) = record { kind = t.kind; spot = None } ∷ as_written ts

meets_itself : (ts : List Token) → Meets ts (as_written ts)
meets_itself [] = tt
meets_itself (t ∷ ts) = (refl, tt, meets_itself ts)

spell_apart : (i : Outline) (ws : List Written) → spell i ws ≡ spell i [] ++ ws
spell_apart end ws = refl
spell_apart (token h k s i) ws = ap (λ us. record { kind = k; spot = s } ∷ us) (spell_apart i ws)
spell_apart (part c h i j) ws =
    spell_apart i (spell j ws) ∙ ap (λ us. spell i [] ++ us) (spell_apart j ws) ∙ sym (append_assoc (spell i []) (spell j []) ws) ∙ ap (λ us. us ++ ws) (sym (spell_apart i (spell j [])))

spell_length : (i : Outline) (ws : List Written) → length (spell i ws) ≡ size i + length ws
spell_length end ws = omega arith
spell_length (token h k s i) ws = omega (arith, spell_length i ws)
spell_length (part c h i j) ws = omega (arith, spell_length i (spell j ws), spell_length j ws)

meets_front : (c r : List Token) (us ws : List Written) → length c ≡ length us → Meets (c ++ r) (us ++ ws) → Meets c us
meets_front [] r [] ws e m = tt
meets_front [] r (u ∷ us) ws e m = absurd (omega (arith, e))
meets_front (t ∷ c) r [] ws e m = absurd (omega (arith, e))
meets_front (t ∷ c) r (u ∷ us) ws e m = (m.0, m.1, meets_front c r us ws (omega (arith, e)) m.2)

-- what is read is spelled by the tokens before the others
front_spelled : (i : Outline) (d : ℕ) (c r : List Token) → Reads i d (c ++ r) r → Meets c (spell i [])
front_spelled i d c r x =
    let all : Meets (c ++ r) (spell i [] ++ as_written r) = subst (Meets (c ++ r)) (spell_apart i (as_written r)) (reads_spell i d (c ++ r) r (as_written r) x (meets_itself r)) in
    meets_front c r (spell i []) (as_written r) (omega (arith, reads_length i d (c ++ r) r x, length-append c r, spell_length i [])) all

front_is : (c tokens r : List Token) → tokens ≡ c ++ r → take (length tokens - length r) tokens ≡ c
front_is c tokens r is =
    let all : length tokens ≡ length (c ++ r) = ap length is in
    let count : length tokens - length r ≡ length c = omega (arith, all, length-append c r) in
    ap (λ n. take n tokens) count ∙ ap (take (length c)) is ∙ take-append_seam c r

-- The tokens up to where a file is cut off are the spelling of the cut-off file.
pub is_cut_off : (d : ℕ) (tokens r : List Token) (f : List (ExternalTree Spot)) → Begun (outlines.file f) d tokens r → CutOff d (take (length tokens - length r) tokens)
is_cut_off d tokens r f b =
    let q = cut_first (outlines.file f) d tokens r b.cut in
    let i = first q.0 (outlines.file f) in
    let e = reads_ending i d tokens r q.2 in
    record {
      tree = f;
      there = q.0;
      orderly = reads_hold i d tokens r q.2;
      shallow = reads_depth i d tokens r q.2;
      spelled = subst (λ ts. Meets ts (spell i [])) (sym (front_is e.0 tokens r e.1)) (front_spelled i d e.0 r (subst (λ ts. Reads i d ts r) e.1 q.2));
    }
