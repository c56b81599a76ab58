-- Two cuts of the same bytes into tokens of the first form agree.
use Rattle.std.proofs.Common.{◌≡◌, ℕ, Option, Some, None, IfSome, Bool, true, false, List, [], ◌∷◌, ◌++◌, length, take, drop, refl, sym, ap, subst, ◌∙◌}
use Rattle.std.proofs.Math.Seq.{take-append_seam, drop-append_seam}
use Rattle.std.specs.List.{list_all}
use Rattle.cc_base.specs.declared.place.Spot.{Spot}
use Rattle.cc_base.specs.Spots.{spot_behind}
use Rattle.cc_first.specs.Cut.{is_white, is_longest, Spelled, IsCut}
use Rattle.cc_first.specs.Tokens.{is_form_text, token_len, AreFormTokens}
use Rattle.std.proofs.lemmas.Bool.{and_parts}
use Rattle.cc_first.proofs.TokenLaws.{form_len, form_no_white}

-- the spots are one, where both are asked
abbrev pub AgreeSpots : Option Spot → Option Spot → Type 0
AgreeSpots a b = IfSome a (λ x. IfSome b (λ y. x ≡ y))

-- as many tokens, with the same texts and the same asked spots
abbrev pub Agree : List Spelled → List Spelled → Type 0
Agree [] [] = Unit {0}
Agree [] (u ∷ us) = ⊥
Agree (t ∷ ts) [] = ⊥
Agree (t ∷ ts) (u ∷ us) = (t.text ≡ u.text) × AgreeSpots t.spot u.spot × Agree ts us

abbrev begins_white : List ℕ → Bool
begins_white [] = false
begins_white (b ∷ z) = is_white b

-- the white bytes up to the first that is not white are one run
same_gaps : (g h x y : List ℕ) → list_all is_white g ≡ true → list_all is_white h ≡ true → begins_white x ≡ false → begins_white y ≡ false → g ++ x ≡ h ++ y → (g ≡ h) × (x ≡ y)
same_gaps [] [] x y p q m n e = (refl, e)
same_gaps [] (b ∷ h) x y p q m n e =
    let w : is_white b ≡ true = (and_parts (is_white b) (list_all is_white h) q).0 in
    let v : is_white b ≡ false = subst (λ (z : List ℕ). begins_white z ≡ false) e m in
    absurd cc
same_gaps (a ∷ g) [] x y p q m n e =
    let w : is_white a ≡ true = (and_parts (is_white a) (list_all is_white g) p).0 in
    let v : is_white a ≡ false = subst (λ (z : List ℕ). begins_white z ≡ false) (sym e) n in
    absurd cc
same_gaps (a ∷ g) (b ∷ h) x y p q m n e =
    let heads : a ≡ b = cc in
    let tails : g ++ x ≡ h ++ y = cc in
    let r = same_gaps g h x y (and_parts (is_white a) (list_all is_white g) p).1 (and_parts (is_white b) (list_all is_white h) q).1 m n tails in
    (ap (λ (l : List ℕ). a ∷ l) r.0 ∙ ap (λ (c : ℕ). c ∷ h) heads, r.1)

text_no_white : (w r : List ℕ) → is_form_text w ≡ true → begins_white (w ++ r) ≡ false
text_no_white [] r f = absurd (let no : false ≡ true = f in cc)
text_no_white (b ∷ w) r f = form_no_white b w f

-- the longest token at a place is one
same_texts : (v w r s : List ℕ) → is_form_text v ≡ true → is_form_text w ≡ true → is_longest v r ≡ true → is_longest w s ≡ true → v ++ r ≡ w ++ s → (v ≡ w) × (r ≡ s)
same_texts v w r s f g l m e =
    let n : length v ≡ length w = sym (form_len v r f l) ∙ ap token_len e ∙ form_len w s g m in (
      sym (take-append_seam v r) ∙ ap (λ (k : ℕ). take k (v ++ r)) n ∙ ap (take (length w)) e ∙ take-append_seam w s,
      sym (drop-append_seam v r) ∙ ap (λ (k : ℕ). drop k (v ++ r)) n ∙ ap (drop (length w)) e ∙ drop-append_seam w s,
    )

-- no token stands in white bytes
no_token_in : (gap text rest : List ℕ) → is_form_text text ≡ true → list_all is_white (gap ++ (text ++ rest)) ≡ true → ⊥
no_token_in [] [] rest f e = let no : false ≡ true = f in cc
no_token_in [] (b ∷ w) rest f e =
    let p : is_white b ≡ true = (and_parts (is_white b) (list_all is_white (w ++ rest)) e).0 in
    let q : is_white b ≡ false = form_no_white b w f in
    cc
no_token_in (a ∷ gap) text rest f e = no_token_in gap text rest f (and_parts (is_white a) (list_all is_white (gap ++ (text ++ rest))) e).1

spots_agree : (a b : Option Spot) (x y : Spot) → x ≡ y → IfSome a (λ s. s ≡ x) → IfSome b (λ s. s ≡ y) → AgreeSpots a b
spots_agree None b x y e p q = tt
spots_agree (Some s) None x y e p q = tt
spots_agree (Some s) (Some t) x y e p q = p ∙ e ∙ sym q

pub cuts_agree : (ts us : List Spelled) (at : Spot) (bytes : List ℕ) → AreFormTokens ts → AreFormTokens us → IsCut at bytes ts → IsCut at bytes us → Agree ts us
cuts_agree [] [] at bytes f g c d = tt
cuts_agree [] (u ∷ us) at bytes f g c d = no_token_in d.0 u.text d.1 g.0 (subst (λ (x : List ℕ). list_all is_white x ≡ true) d.2 c)
cuts_agree (t ∷ ts) [] at bytes f g c d = no_token_in c.0 t.text c.1 f.0 (subst (λ (x : List ℕ). list_all is_white x ≡ true) c.2 d)
cuts_agree (t ∷ ts) (u ∷ us) at bytes f g c d =
    let gaps = same_gaps c.0 d.0 (t.text ++ c.1) (u.text ++ d.1) c.3 d.3 (text_no_white t.text c.1 f.0) (text_no_white u.text d.1 g.0) (sym c.2 ∙ d.2) in
    let texts = same_texts t.text u.text c.1 d.1 f.0 g.0 c.5 d.5 gaps.1 in
    let run : c.0 ++ t.text ≡ d.0 ++ u.text = ap (λ (l : List ℕ). l ++ t.text) gaps.0 ∙ ap (λ (l : List ℕ). d.0 ++ l) texts.0 in
    let rest : IsCut (spot_behind at (c.0 ++ t.text)) d.1 ts = subst (λ (r : List ℕ). IsCut (spot_behind at (c.0 ++ t.text)) r ts) texts.1 c.6 in
    let moved : IsCut (spot_behind at (d.0 ++ u.text)) d.1 ts = subst (λ (l : List ℕ). IsCut (spot_behind at l) d.1 ts) run rest in (
      texts.0,
      spots_agree t.spot u.spot (spot_behind at c.0) (spot_behind at d.0) (ap (spot_behind at) gaps.0) c.4 d.4,
      cuts_agree ts us (spot_behind at (d.0 ++ u.text)) d.1 f.1 g.1 moved d.6,
    )
