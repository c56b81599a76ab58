-- Comments, white runs and lines.
use Rattle.std.proofs.Common.{◌≡◌, ℕ, zero, suc, ◌+◌, ◌≤◌, ◌<◌, Bool, true, ◌&&◌, eqb, List, [], ◌∷◌, ◌++◌, length, take, drop, length-take, length-append, refl, sym, ap, ◌∙◌, subst, arith, ◌⊎◌, inl, inr}
use Rattle.std.proofs.lemmas.Bool.{and_from, and_parts, cases_Bool, eqb-true, or_cases, or_left, or_right}
use Rattle.cc_lex.specs.Bytes.{in_white, in_line, chain}
use Rattle.cc_lex.specs.Pieces.{is_white_run, is_comment, ends_block, is_line, Longest}
use Rattle.cc_lex.specs.Reading.{run, block_len, plus, comment_len}
use Rattle.cc_lex.proofs.Measured.{Measures, run_most, run_chain, run_within, block_most, block_found, block_within, block_some}

white_most : (text : List ℕ) (m : ℕ) → m ≤ length text → is_white_run (take m text) ≡ true → m ≤ run in_white 0 text
white_most text zero h e = omega arith
white_most [] (suc m) h e = absurd (omega arith)
white_most (b ∷ z) (suc m) h e = run_most in_white 0 (b ∷ z) (suc m) h e

white_at : (text : List ℕ) (n : ℕ) → 0 < n → n ≤ length text → chain in_white 0 (take n text) ≡ true → is_white_run (take n text) ≡ true
white_at text zero p h e = absurd (omega arith)
white_at [] (suc n) p h e = absurd (omega arith)
white_at (b ∷ z) (suc n) p h e = e

pub white_measures : (text : List ℕ) → Measures is_white_run (run in_white 0 text) text
white_measures text = record {
  within = run_within in_white 0 text;
  found = λ h. white_at text (run in_white 0 text) h (run_within in_white 0 text) (run_chain in_white 0 text);
  most = white_most text;
}

line_most : (text : List ℕ) (m : ℕ) → m ≤ length text → is_line (take m text) ≡ true → m ≤ run in_line 0 text
line_most text zero h e = omega arith
line_most [] (suc m) h e = absurd (omega arith)
line_most (b ∷ z) (suc m) h e = run_most in_line 0 (b ∷ z) (suc m) h e

line_at : (text : List ℕ) (n : ℕ) → 0 < n → n ≤ length text → chain in_line 0 (take n text) ≡ true → is_line (take n text) ≡ true
line_at text zero p h e = absurd (omega arith)
line_at [] (suc n) p h e = absurd (omega arith)
line_at (b ∷ z) (suc n) p h e = e

pub line_measures : (text : List ℕ) → Measures is_line (run in_line 0 text) text
line_measures text = record {
  within = run_within in_line 0 text;
  found = λ h. line_at text (run in_line 0 text) h (run_within in_line 0 text) (run_chain in_line 0 text);
  most = line_most text;
}

plus_above : (m n : ℕ) → 0 < m → m ≤ n → suc (suc m) ≤ plus 2 n
plus_above m zero p h = absurd (omega arith)
plus_above m (suc n) p h = omega arith

comment_most : (text : List ℕ) (m : ℕ) → m ≤ length text → is_comment (take m text) ≡ true → m ≤ comment_len text
comment_most text zero h e = omega arith
comment_most [] (suc m) h e = absurd (omega arith)
comment_most (a ∷ []) (suc zero) h e = absurd cc
comment_most (a ∷ []) (suc (suc m)) h e = absurd (omega arith)
comment_most (a ∷ b ∷ z) (suc zero) h e = absurd cc
comment_most (a ∷ b ∷ z) (suc (suc m)) h e =
    let p = and_parts (eqb a 47) _ e in
    elim (or_cases (eqb b 42 && ends_block (take m z)) (eqb b 47 && chain in_line 0 (take m z)) p.1) [
      | inl x ↦
          let q = and_parts (eqb b 42) (ends_block (take m z)) x in
          rw (p.0, q.0) (plus_above m (block_len z) (block_some z m q.1) (block_most z m (omega arith) q.1))
      | inr y ↦
          let q = and_parts (eqb b 47) (chain in_line 0 (take m z)) y in
          let is : b ≡ 47 = eqb-true b 47 q.0 in
          subst (λ c. suc (suc m) ≤ comment_len (a ∷ c ∷ z)) (sym is) (rw p.0 (omega (arith, run_most in_line 0 z m (omega arith) q.1)))
    ]

plus_cases : (n : ℕ) → ((n ≡ 0) × (plus 2 n ≡ 0)) ⊎ ((0 < n) × (plus 2 n ≡ suc (suc n)))
plus_cases zero = inl (refl, refl)
plus_cases (suc n) = inr (omega arith, omega arith)

comment_at : (text : List ℕ) (n : ℕ) → comment_len text ≡ n → 0 < n → is_comment (take n text) ≡ true
comment_at [] n e h = absurd (omega arith)
comment_at (a ∷ []) n e h = absurd (omega arith)
comment_at (a ∷ b ∷ z) n e h =
    elim (cases_Bool (eqb a 47)) [
      | inr other ↦ absurd (let k : 0 ≡ n = rw other at e in omega arith)
      | inl slash ↦
          elim (cases_Bool (eqb b 42)) [
            | inl star ↦
                let k : plus 2 (block_len z) ≡ n = rw (slash, star) at e in
                elim (plus_cases (block_len z)) [
                  | inl none ↦ absurd (omega arith)
                  | inr some ↦
                      subst (λ i. is_comment (take i (a ∷ b ∷ z)) ≡ true) (sym some.1 ∙ k)
                      (and_from (eqb a 47) _ slash (or_left _ _ (and_from (eqb b 42) _ star (block_found z some.0))))
                ]
            | inr no_star ↦
                elim (cases_Bool (eqb b 47)) [
                  | inr other ↦ absurd (let k : 0 ≡ n = rw (slash, no_star, other) at e in omega arith)
                  | inl twice ↦
                      let k : 2 + run in_line 0 z ≡ n = rw (slash, no_star, twice) at e in
                      let l : suc (suc (run in_line 0 z)) ≡ n = omega arith in
                      subst (λ i. is_comment (take i (a ∷ b ∷ z)) ≡ true) l
                      (and_from (eqb a 47) _ slash (or_right _ _ (and_from (eqb b 47) _ twice (run_chain in_line 0 z))))
                ]
          ]
    ]

comment_within : (text : List ℕ) → comment_len text ≤ length text
comment_within [] = omega arith
comment_within (a ∷ []) = omega arith
comment_within (a ∷ b ∷ z) =
    elim (cases_Bool (eqb a 47)) [
      | inr other ↦ rw other (omega arith)
      | inl slash ↦
          elim (cases_Bool (eqb b 42)) [
            | inl star ↦ rw (slash, star) (elim (plus_cases (block_len z)) [ inl none ↦ omega arith | inr some ↦ omega (arith, block_within z) ])
            | inr no_star ↦
                elim (cases_Bool (eqb b 47)) [ inr other ↦ rw (slash, no_star, other) (omega arith) | inl twice ↦ rw (slash, no_star, twice) (omega (arith, run_within in_line 0 z)) ]
          ]
    ]

pub comment_measures : (text : List ℕ) → Measures is_comment (comment_len text) text
comment_measures text = record { within = comment_within text; found = comment_at text (comment_len text) refl; most = comment_most text }

-- ---- A measured front is the longest, and the only longest

pub longest_of : (passes : List ℕ → Bool) (n : ℕ) (text : List ℕ) → Measures passes n text → 0 < n → Longest passes (take n text) text
longest_of passes n text m h =
    let w : n ≤ length text = m.within in
    let l : length (take n text) ≡ n = omega (arith, length-take {A = ℕ}) in
    record { passes_itself = m.found h; most = λ k in_text e. omega (arith, m.most k in_text e) }

pub take_front : (w r : List ℕ) → take (length w) (w ++ r) ≡ w
take_front [] r = refl
take_front (b ∷ w) r = ap (λ x. b ∷ x) (take_front w r)

pub take_drop : (n : ℕ) (text : List ℕ) → text ≡ take n text ++ drop n text
take_drop zero text = refl
take_drop (suc n) [] = refl
take_drop (suc n) (b ∷ z) = ap (λ x. b ∷ x) (take_drop n z)

pub one_length : (passes : List ℕ → Bool) (w r : List ℕ) (n : ℕ) → Longest passes w (w ++ r) → Measures passes n (w ++ r) → n ≡ length w
one_length passes w r zero l m =
    let a : length w ≤ length (w ++ r) = omega (arith, length-append w r) in
    let b : length w ≤ 0 = m.most (length w) a (rw (take_front w r) l.passes_itself) in
    omega arith
one_length passes w r (suc n) l m =
    let a : length w ≤ length (w ++ r) = omega (arith, length-append w r) in
    let b : length w ≤ suc n = m.most (length w) a (rw (take_front w r) l.passes_itself) in
    let c : suc n ≤ length w = l.most (suc n) m.within (m.found (omega arith)) in
    omega arith

pub one_front : (passes : List ℕ → Bool) (w r : List ℕ) (n : ℕ) → Longest passes w (w ++ r) → Measures passes n (w ++ r) → take n (w ++ r) ≡ w
one_front passes w r n l m = rw (one_length passes w r n l m) (take_front w r)

pub drop_front : (w r : List ℕ) → drop (length w) (w ++ r) ≡ r
drop_front [] r = refl
drop_front (b ∷ w) r = drop_front w r
