-- No cut-off file is spelled by the tokens up to and with the one at which reading fails.
use Rattle.std.proofs.Common.{◌≡◌, ◌<◌, ◌-◌, refl, ℕ, zero, suc, List, [], ◌∷◌, ◌++◌, length, take, Err, arith, sym, ap, subst, ◌∙◌, inl, inr, append-nil}
use Rattle.cc_base.specs.declared.place.Spot.{Spot}
use Rattle.cc_lex.specs.declared.token.Token.{Token}
use Rattle.cc_tree.specs.Trees.{ExternalTree}
use Rattle.cc_grammar.specs.Outline.{Outline, end, token, part, Meets, size, first}
use Rattle.cc_grammar.specs.Outlines as outlines
use Rattle.cc_grammar.specs.Outcomes.{Outcome}
use Rattle.cc_grammar.specs.Reading.{reading}
use Rattle.cc_grammar.specs.CutOff.{CutOff}
use Rattle.cc_parse_laws.proofs.Spans.{Inside, Reads, spelled_reads}
use Rattle.cc_parse_places.proofs.Forks.{left}
use Rattle.cc_parse_places.proofs.Begun.{Cut, Begun, cut_here}
use Rattle.cc_parse_places.proofs.FirstOnes.{inside_maps}
use Rattle.cc_parse_places.proofs.Refused.{refused_whatever_follows, left_is_the_end, before_rest}
use Rattle.cc_parse_places.proofs.SpentFiles.{file_spent}

-- with a token behind it, all of an outline is there
reads_whole : (i : Outline) (n d : ℕ) (ts r : List Token) → size i < n → Reads (first n i) d ts r → Reads i d ts r
reads_whole i zero d ts r h x = absurd (omega (arith, h))
reads_whole end (suc n) d ts r h x = x
reads_whole (token a k s i) (suc n) d [] r h x = absurd x
reads_whole (token a k s i) (suc n) d (t ∷ ts) r h x = (x.0, x.1, x.2, reads_whole i n d ts r (omega (arith, h)) x.3)
reads_whole (part c a i j) (suc n) d ts r h x =
    (x.0, x.1, inside_maps c (λ e. Reads (first (suc n) i) e ts x.0) (λ e. Reads i e ts x.0) d (λ e y. reads_whole i (suc n) e ts x.0 (omega (arith, h)) y) x.2, reads_whole j (suc n - size i) d x.0 r (omega (arith, h)) x.3)

-- what is read of the first tokens is begun
first_cut : (i : Outline) (n d : ℕ) (ts r : List Token) → Reads (first n i) d ts r → Cut i d ts r
first_cut i zero d ts r x = cut_here i d ts r x
first_cut end (suc n) d ts r x = x
first_cut (token a k s i) (suc n) d [] r x = absurd x
first_cut (token a k s i) (suc n) d (t ∷ ts) r x = inr (x.0, x.1, x.2, first_cut i n d ts r x.3)
first_cut (part c a i j) (suc n) d ts r x =
    by (suc n - size i) refl x.3 (inside_maps c (λ e. Reads (first (suc n) i) e ts x.0) (λ e. Cut i e ts x.0) d (λ e y. first_cut i (suc n) e ts x.0 y) x.2) (first_cut j (suc n - size i) d x.0 r x.3)
  where
    by : (m : ℕ) → suc n - size i ≡ m → Reads (first (suc n - size i) j) d x.0 r → Inside c (λ e. Cut i e ts x.0) d → Cut j d x.0 r → Cut (part c a i j) d ts r
    by zero e y inside behind =
        let here : x.0 ≡ r = subst (λ m. Reads (first m j) d x.0 r) e y in
        inr (inl (x.1, subst (λ us. Inside c (λ f. Cut i f ts us) d) here inside))
    by (suc m) e y inside behind =
        inr (inr (x.0, x.1, inside_maps c (λ f. Reads (first (suc n) i) f ts x.0) (λ f. Reads i f ts x.0) d (λ f z. reads_whole i (suc n) f ts x.0 (omega (arith, e)) z) x.2, behind))

no_more : (ts : List Token) → Meets ts [] → ts ≡ []
no_more [] m = refl
no_more (t ∷ ts) m = absurd m

-- a cut-off file is one that is begun
cut_off_begun : (d : ℕ) (tokens : List Token) (c : CutOff d tokens) → Begun (outlines.file c.tree) d tokens []
cut_off_begun d tokens c =
    let i = first c.there (outlines.file c.tree) in
    let s = spelled_reads i d tokens [] c.orderly c.shallow c.spelled in
    record { cut = first_cut (outlines.file c.tree) c.there d tokens [] (subst (Reads i d tokens) (no_more s.rest s.others) s.reads) }

pub not_at_a_token : (d : ℕ) (tokens : List Token) (t : Token) (rest : List Token) → reading d tokens ≡ Err (t ∷ rest) → left (reading d tokens) ≡ [] → ⊥
not_at_a_token d tokens t rest e s =
    let is : left (reading d tokens) ≡ t ∷ rest = ap (λ (y : Outcome (List (ExternalTree Spot))). left y) e in
    let no : t ∷ rest ≡ [] = sym is ∙ s in
    cc

-- A cut-off file is read to its end.
pub cut_off_is_read : (d : ℕ) (tokens : List Token) → CutOff d tokens → left (reading d tokens) ≡ []
cut_off_is_read d tokens c = file_spent d tokens c.tree (cut_off_begun d tokens c)

-- No cut-off file has the refused token as its last.
pub no_cut_off_file_begins_so : (d : ℕ) (tokens : List Token) (t : Token) (rest : List Token) → reading d tokens ≡ Err (t ∷ rest) → CutOff d (take (length tokens - length rest) tokens) → ⊥
no_cut_off_file_begins_so d tokens t rest failed c =
    let parts = left_is_the_end d tokens t rest failed in
    let upto = parts.0 ++ t ∷ [] in
    let fails : reading d upto ≡ Err (t ∷ []) = refused_whatever_follows d parts.0 t rest [] (ap (reading d) (sym parts.1) ∙ failed) in
    let same : take (length tokens - length rest) tokens ≡ upto = sym (append-nil (take (length tokens - length rest) tokens)) ∙ before_rest parts.0 t tokens rest [] parts.1 in
    let here : CutOff d upto = subst (CutOff d) same c in
    not_at_a_token d upto t [] fails (file_spent d upto here.tree (cut_off_begun d upto here))
