-- Tables of spellings, longer ones first.
use Rattle.std.proofs.Common.{◌≡◌, ℕ, zero, suc, ◌≤◌, ◌<◌, Bool, true, false, ◌&&◌, ◌||◌, eqb, leb, List, [], ◌∷◌, length, take, length-take, refl, ap, ◌∙◌, subst, arith, inl, inr}
use Rattle.std.proofs.lemmas.Bool.{and_parts, cases_Bool, eqb-true, leb-true}
use Rattle.std.specs.List.{list_any, list_all}
use Rattle.cc_lex.specs.Bytes.{first}
use Rattle.cc_lex.specs.Spellings.{same}
use Rattle.cc_lex.specs.Pieces.{begins}
use Rattle.cc_lex.specs.Reading.{first_of}
use Rattle.cc_lex.proofs.Measured.{Measures}

pub same_is : (a w : List ℕ) → same a w ≡ true → a ≡ w
same_is [] [] e = refl
same_is [] (b ∷ z) e = absurd cc
same_is (a ∷ y) [] e = absurd cc
same_is (a ∷ y) (b ∷ z) e =
    let p = and_parts (eqb a b) (same y z) e in
    let h : a ≡ b = eqb-true a b p.0 in
    let t : y ≡ z = same_is y z p.1 in
    cc

-- a front that is the same as the spelling
pub begins_same : (a text : List ℕ) (m : ℕ) → same a (take m text) ≡ true → begins a text ≡ true
begins_same [] text m e = refl
begins_same (a ∷ y) text zero e = absurd (let no : false ≡ true = e in cc)
begins_same (a ∷ y) [] (suc m) e = absurd (let no : false ≡ true = e in cc)
begins_same (a ∷ y) (b ∷ z) (suc m) e = let p = and_parts (eqb a b) (same y (take m z)) e in rw p.0 (begins_same y z m p.1)

pub same_begins : (a text : List ℕ) → begins a text ≡ true → same a (take (length a) text) ≡ true
same_begins [] text e = refl
same_begins (a ∷ y) [] e = absurd cc
same_begins (a ∷ y) (b ∷ z) e = let p = and_parts (eqb a b) (begins y z) e in rw p.0 (same_begins y z p.1)

pub begins_within : (a text : List ℕ) → begins a text ≡ true → length a ≤ length text
begins_within [] text e = omega arith
begins_within (a ∷ y) [] e = absurd cc
begins_within (a ∷ y) (b ∷ z) e = let p = and_parts (eqb a b) (begins y z) e in omega (arith, begins_within y z p.1)

-- no spelling is longer than one before it
abbrev pub is_descending : List (List ℕ) → Bool
is_descending [] = true
is_descending (p ∷ ps) = list_all (λ q. leb (length q) (length p)) ps && is_descending ps

no_longer : (n m : ℕ) (w : List ℕ) (ps : List (List ℕ)) → list_all (λ q. leb (length q) n) ps ≡ true → list_any (λ q. same q w) ps ≡ true → length w ≡ m → m ≤ n
no_longer n m w [] h e l = absurd cc
no_longer n m w (q ∷ qs) h e l =
    let p = and_parts (leb (length q) n) (list_all (λ q. leb (length q) n) qs) h in
    elim (cases_Bool (same q w)) [
      | inl s ↦ let k : length q ≡ length w = ap length (same_is q w s) in omega (arith, leb-true _ _ p.0)
      | inr s ↦ no_longer n m w qs p.1 (rw s at e) l
    ]

pub first_of_most : (ps : List (List ℕ)) (text : List ℕ) (m : ℕ) → is_descending ps ≡ true → m ≤ length text → list_any (λ q. same q (take m text)) ps ≡ true → m ≤ first_of ps text
first_of_most [] text m d h e = absurd cc
first_of_most (p ∷ ps) text m d h e =
    let o = and_parts (list_all (λ q. leb (length q) (length p)) ps) (is_descending ps) d in
    let l : length (take m text) ≡ m = omega (arith, length-take {A = ℕ}) in
    elim (cases_Bool (same p (take m text))) [
      | inl s ↦ let k : length p ≡ m = ap length (same_is p (take m text) s) ∙ l in rw (begins_same p text m s) (omega arith)
      | inr s ↦
          let e' : list_any (λ q. same q (take m text)) ps ≡ true = rw s at e in
          elim (cases_Bool (begins p text)) [
            | inl b ↦ rw b (no_longer (length p) m (take m text) ps o.0 e' l)
            | inr b ↦ rw b (first_of_most ps text m o.1 h e')
          ]
    ]

any_first : (test : List ℕ → Bool) (q : List ℕ) (qs : List (List ℕ)) → test q ≡ true → list_any test (q ∷ qs) ≡ true
any_first test q qs e = rw e refl

any_later : (test : List ℕ → Bool) (q : List ℕ) (qs : List (List ℕ)) → list_any test qs ≡ true → list_any test (q ∷ qs) ≡ true
any_later test q qs e = elim (test q) as (λ v. (v || list_any test qs) ≡ true) [ true ↦ refl | false ↦ e ]

-- `n` stands for the length, so that a test can be rewritten in it
found_at : (ps : List (List ℕ)) (text : List ℕ) (n : ℕ) → first_of ps text ≡ n → 0 < n → list_any (λ q. same q (take n text)) ps ≡ true
found_at [] text n e h = absurd (omega arith)
found_at (p ∷ ps) text n e h =
    elim (cases_Bool (begins p text)) [
      | inl b ↦ let l : length p ≡ n = rw b at e in any_first (λ q. same q (take n text)) p ps (subst (λ k. same p (take k text) ≡ true) l (same_begins p text b))
      | inr b ↦ any_later (λ q. same q (take n text)) p ps (found_at ps text n (rw b at e) h)
    ]

pub first_of_found : (ps : List (List ℕ)) (text : List ℕ) → 0 < first_of ps text → list_any (λ q. same q (take (first_of ps text) text)) ps ≡ true
first_of_found ps text h = found_at ps text (first_of ps text) refl h

pub first_of_within : (ps : List (List ℕ)) (text : List ℕ) → first_of ps text ≤ length text
first_of_within [] text = omega arith
first_of_within (p ∷ ps) text = elim (cases_Bool (begins p text)) [ inl b ↦ rw b (begins_within p text b) | inr b ↦ rw b (first_of_within ps text) ]

-- the first byte of a spelling of the table passes a test that all the table's first bytes pass
pub first_passes : (test : ℕ → Bool) (b : ℕ) (v : List ℕ) (ps : List (List ℕ)) → list_all (λ q. test (first q)) ps ≡ true → list_any (λ q. same q (b ∷ v)) ps ≡ true → test b ≡ true
first_passes test b v [] h e = absurd cc
first_passes test b v (q ∷ qs) h e =
    let p = and_parts (test (first q)) (list_all (λ q. test (first q)) qs) h in
    elim (cases_Bool (same q (b ∷ v))) [
      | inl s ↦ subst (λ (w : List ℕ). test (first w) ≡ true) (same_is q (b ∷ v) s) p.0
      | inr s ↦ first_passes test b v qs p.1 (rw s at e)
    ]

pub table_measures : (ps : List (List ℕ)) (text : List ℕ) → is_descending ps ≡ true → Measures (λ w. list_any (λ p. same p w) ps) (first_of ps text) text
table_measures ps text d = record { within = first_of_within ps text; found = found_at ps text (first_of ps text) refl; most = λ m h e. first_of_most ps text m d h e }
