-- The piece that is read is the one that stands there, and a fault that is read is the least.
use Rattle.std.proofs.Common.{◌≡◌, ℕ, zero, suc, ◌≤◌, ◌<◌, Bool, true, false, ◌&&◌, ◌||◌, eqb, List, [], ◌∷◌, ◌++◌, length, take, drop, length-take, length-append, Contains, Result, Ok, Err, refl, sym, ap, subst, arith, inl, inr}
use Rattle.std.proofs.lemmas.Bool.{and_from, and_parts, cases_Bool, eq-eqb, eqb-false, eqb-true, ne_eqb, or_cases}
use Rattle.cc_lex.specs.Bytes.{first, is_white, is_quote, in_white, in_line, chain}
use Rattle.cc_lex.specs.Spellings.{is_token}
use Rattle.cc_lex.specs.Meanings.{faults, meaning}
use Rattle.cc_lex.specs.Pieces.{Piece, white, comment, line, token, bytes_of, is_white_run, is_comment, ends_block, is_line, begins_comment, begins_skipped, Longest, IsInPlace}
use Rattle.cc_lex.specs.Faults.{NoFront, Faulty, stray, open_comment, open_constant, inside, hash, begins_splice, NotAfter}
use Rattle.cc_lex.specs.Reading.{run, comment_len, token_len, judged, unread, next}
use Rattle.cc_lex.proofs.Measured.{Measures}
use Rattle.cc_lex.proofs.Fronts.{token_measures, token_some, token_first}
use Rattle.cc_lex.proofs.PieceLemmas.{white_measures, line_measures, comment_measures, one_length, one_front, longest_of, take_drop, drop_front}
use Rattle.cc_lex.proofs.FaultLemmas.{faults_ascending}

white_first : (w r : List ℕ) → is_white_run w ≡ true → in_white 0 (first (w ++ r)) ≡ true
white_first [] r e = absurd cc
white_first (b ∷ v) r e = let p = and_parts (in_white 0 b) (chain in_white b v) e in p.0

comment_first : (w r : List ℕ) → is_comment w ≡ true → (in_white 0 (first (w ++ r)) ≡ false) × (begins_comment (w ++ r) ≡ true) × (0 < length w)
comment_first [] r e = absurd cc
comment_first (a ∷ []) r e = absurd cc
comment_first (a ∷ b ∷ z) r e =
    let p = and_parts (eqb a 47) _ e in
    let is : a ≡ 47 = eqb-true a 47 p.0 in (
      subst (λ c. in_white 0 c ≡ false) (sym is) refl,
      and_from (eqb a 47) _ p.0 (
          elim (or_cases (eqb b 42 && ends_block z) (eqb b 47 && chain in_line 0 z) p.1) [
            | inl x ↦ let q = and_parts (eqb b 42) (ends_block z) x in rw q.0 refl
            | inr y ↦ let q = and_parts (eqb b 47) (chain in_line 0 z) y in subst (λ c. (eqb c 42 || eqb c 47) ≡ true) (sym (eqb-true b 47 q.0)) refl
          ]
          ),
      omega arith,
    )

some_not_zero : (n : ℕ) → 0 < n → eqb n 0 ≡ false
some_not_zero n h = ne_eqb n 0 (λ e. omega arith)

hash_first : (text : List ℕ) → begins_skipped text ≡ true → (in_white 0 (first text) ≡ false) × (begins_comment text ≡ false) × (eqb (first text) 35 ≡ true)
hash_first [] e = absurd cc
hash_first (b ∷ z) e =
    let p = and_parts (eqb b 35) _ e in
    let is : b ≡ 35 = eqb-true b 35 p.0 in
    subst (λ c. (in_white 0 c ≡ false) × (begins_comment (c ∷ z) ≡ false) × (eqb c 35 ≡ true)) (sym is) (refl, refl, refl)

-- ---- What stands there is read

pub next_again : (starts : Bool) (p : Piece) (r : List ℕ) → IsInPlace starts p r → next starts (bytes_of p ++ r) ≡ Ok p
next_again starts (white w) r s =
    let a = white_first w r s.passes_itself in
    let t = one_front is_white_run w r _ s (white_measures (w ++ r)) in
    rw (a, t) refl
next_again starts (comment w) r s =
    let a = comment_first w r s.passes_itself in
    let n : comment_len (w ++ r) ≡ length w = one_length is_comment w r _ s (comment_measures (w ++ r)) in
    let t = one_front is_comment w r _ s (comment_measures (w ++ r)) in
    let z : eqb (comment_len (w ++ r)) 0 ≡ false = some_not_zero _ (omega arith) in
    rw (a.0, a.1, z, t) refl
next_again starts (line w) r s =
    let a = hash_first (w ++ r) s.2 in
    let t = one_front is_line w r _ s.0 (line_measures (w ++ r)) in
    rw (a.0, a.1, s.2, s.1, a.2, t) refl
next_again starts (token w k) r s =
    let a = token_first w r s.0.passes_itself in
    let n : token_len (w ++ r) ≡ length w = one_length is_token w r _ s.0 (token_measures (w ++ r)) in
    let some = token_some w s.0.passes_itself in
    let z : eqb (token_len (w ++ r)) 0 ≡ false = some_not_zero _ (omega arith) in
    let t = one_front is_token w r _ s.0 (token_measures (w ++ r)) in
    let u : drop (token_len (w ++ r)) (w ++ r) ≡ r = rw n (drop_front w r) in
    rw (a.no_white, s.1, a.no_hash, z, t, u, s.2, s.3) refl

-- ---- What is read stands there

-- the text begins with the piece, which is right there
pub record Begins (starts : Bool) (text : List ℕ) (p : Piece) : Type 0 where
  pub rest : List ℕ
  pub is : text ≡ bytes_of p ++ rest
  pub right : IsInPlace starts p rest
  pub some : 0 < length (bytes_of p)

-- the front of this length, with what follows it
front : (passes : List ℕ → Bool) (n : ℕ) (text : List ℕ) → Measures passes n text → 0 < n → Longest passes (take n text) (take n text ++ drop n text)
front passes n text m h = subst (λ t. Longest passes (take n text) t) (take_drop n text) (longest_of passes n text m h)

front_some : (passes : List ℕ → Bool) (n : ℕ) (text : List ℕ) → Measures passes n text → 0 < n → 0 < length (take n text)
front_some passes n text m h = let w : n ≤ length text = m.within in omega (arith, length-take {A = ℕ})

white_some : (text : List ℕ) → in_white 0 (first text) ≡ true → 0 < run in_white 0 text
white_some [] e = absurd cc
white_some (b ∷ z) e = rw e (omega arith)

hash_some : (text : List ℕ) → eqb (first text) 35 ≡ true → 0 < run in_line 0 text
hash_some [] e = absurd cc
hash_some (b ∷ z) e = subst (λ c. 0 < run in_line 0 (c ∷ z)) (sym (eqb-true b 35 e)) (omega arith)

not_zero : (n : ℕ) → eqb n 0 ≡ false → 0 < n
not_zero zero e = absurd (eqb-false 0 0 e refl)
not_zero (suc n) e = omega arith

abbrev pub piece_ok : Piece → Result Piece (ℕ × ℕ)
piece_ok x = Ok x

abbrev pub piece_err : ℕ × ℕ → Result Piece (ℕ × ℕ)
piece_err f = Err f

ok_is : (x y : Piece) → piece_ok x ≡ piece_ok y → x ≡ y
ok_is x y e = cc

pub err_is : (x y : ℕ × ℕ) → piece_err x ≡ piece_err y → x ≡ y
err_is x y e = cc

judged_ok : (w : List ℕ) (fs : List (ℕ × ℕ)) (p : Piece) → judged w fs ≡ Ok p → (p ≡ token w (meaning w)) × (fs ≡ [])
judged_ok w [] p e = (cc, refl)
judged_ok w (f ∷ fs) p e = absurd cc

pub next_stands : (starts : Bool) (text : List ℕ) (p : Piece) → next starts text ≡ Ok p → Begins starts text p
next_stands starts text p e =
    elim (cases_Bool (in_white 0 (first text))) [
      | inl a ↦
          let n = run in_white 0 text in
          let is : white (take n text) ≡ p = ok_is _ _ (rw a at e) in
          let some : 0 < n = white_some text a in
          subst (λ q. Begins starts text q) is (record { rest = drop n text; is = take_drop n text; right = front is_white_run n text (white_measures text) some; some = front_some is_white_run n text (white_measures text) some })
      | inr a ↦
          elim (cases_Bool (begins_comment text)) [
            | inl b ↦
                let n = comment_len text in
                elim (cases_Bool (eqb (comment_len text) 0)) [
                  | inl c ↦ let no : piece_err (0, 2) ≡ Ok p = rw (a, b, c) at e in absurd cc
                  | inr c ↦
                      let is : comment (take n text) ≡ p = ok_is _ _ (rw (a, b, c) at e) in
                      let some : 0 < n = not_zero n c in
                      subst (λ q. Begins starts text q) is (record { rest = drop n text; is = take_drop n text; right = front is_comment n text (comment_measures text) some; some = front_some is_comment n text (comment_measures text) some })
                ]
            | inr b ↦
                elim (cases_Bool (eqb (first text) 35)) [
                  | inl c ↦
                      let n = run in_line 0 text in
                      elim (cases_Bool (starts && begins_skipped text)) [
                        | inl d ↦
                            let is : line (take n text) ≡ p = ok_is _ _ (rw (a, b, d, c) at e) in
                            let some : 0 < n = hash_some text c in
                            let g = and_parts starts (begins_skipped text) d in
                            subst (λ q. Begins starts text q) is (record { rest = drop n text; is = take_drop n text; right = (front is_line n text (line_measures text) some, g.0, subst (λ t. begins_skipped t ≡ true) (take_drop n text) g.1); some = front_some is_line n text (line_measures text) some })
                        | inr d ↦ let no : piece_err (0, 9) ≡ Ok p = rw (a, b, d, c) at e in absurd cc
                      ]
                  | inr c ↦
                      let n = token_len text in
                      elim (cases_Bool (eqb (token_len text) 0)) [
                        | inl d ↦ let no : piece_err (0, unread text) ≡ Ok p = rw (a, b, c, d) at e in absurd cc
                        | inr d ↦
                            let some : 0 < n = not_zero n d in
                            let j = judged_ok (take n text) (faults (take n text) (first (drop n text))) p (rw (a, b, c, d) at e) in
                            subst (λ q. Begins starts text q) (sym j.0) (record { rest = drop n text; is = take_drop n text; right = (front is_token n text (token_measures text) some, subst (λ t. begins_comment t ≡ false) (take_drop n text) b, j.1, refl); some = front_some is_token n text (token_measures text) some })
                      ]
                ]
          ]
    ]

-- ---- Faults

-- nothing passes where nothing is measured
none : (passes : List ℕ → Bool) (n : ℕ) (text : List ℕ) → Measures passes n text → n ≡ 0 → NoFront passes text
none passes n text m e = λ k in_text good. omega (arith, m.most k in_text good)

no_white_front : (text : List ℕ) → in_white 0 (first text) ≡ false → NoFront is_white_run text
no_white_front text e zero h good = refl
no_white_front [] e (suc m) h good = absurd (omega arith)
no_white_front (b ∷ z) e (suc m) h good = let p = and_parts (in_white 0 b) (chain in_white b (take m z)) good in absurd cc

head_contained : (g : ℕ × ℕ) (gs : List (ℕ × ℕ)) → Contains (g ∷ gs) g
head_contained g gs = (0, omega arith, refl)

judged_err : (w : List ℕ) (fs : List (ℕ × ℕ)) (f : ℕ × ℕ) → judged w fs ≡ Err f → Contains fs f
judged_err w [] f e = absurd cc
judged_err w (g ∷ gs) f e = let is : g ≡ f = err_is g f e in subst (λ x. Contains (g ∷ gs) x) is (head_contained g gs)

unread_quote : (text : List ℕ) → is_quote (first text) ≡ true → unread text ≡ 3
unread_quote text q = rw q refl

unread_splice : (text : List ℕ) → is_quote (first text) ≡ false → begins_splice text ≡ true → unread text ≡ 8
unread_splice text q s = rw (s, q) refl

unread_stray : (text : List ℕ) → is_quote (first text) ≡ false → begins_splice text ≡ false → unread text ≡ 1
unread_stray text q s = rw (s, q) refl

quote_read : (text : List ℕ) (f : ℕ × ℕ) → is_quote (first text) ≡ true → piece_err (0, unread text) ≡ Err f → piece_err (0, 3) ≡ Err f
quote_read text f q e = subst (λ k. piece_err (0, k) ≡ Err f) (unread_quote text q) e

splice_read : (text : List ℕ) (f : ℕ × ℕ) → is_quote (first text) ≡ false → begins_splice text ≡ true → piece_err (0, unread text) ≡ Err f → piece_err (0, 8) ≡ Err f
splice_read text f q s e = subst (λ k. piece_err (0, k) ≡ Err f) (unread_splice text q s) e

stray_read : (text : List ℕ) (f : ℕ × ℕ) → is_quote (first text) ≡ false → begins_splice text ≡ false → piece_err (0, unread text) ≡ Err f → piece_err (0, 1) ≡ Err f
stray_read text f q s e = subst (λ k. piece_err (0, k) ≡ Err f) (unread_stray text q s) e

-- what is read as a fault: one of what begins there, or a splice, which is faulty everywhere
pub data Found (starts : Bool) (text : List ℕ) (f : ℕ × ℕ) : Type 0 where
  begun : Faulty starts text f.0 f.1 → Found starts text f
  spliced : f ≡ (0, 8) → begins_splice text ≡ true → Found starts text f

pub next_fault : (starts : Bool) (text : List ℕ) (f : ℕ × ℕ) → 0 < length text → next starts text ≡ Err f → Found starts text f
next_fault starts text f some e =
    elim (cases_Bool (in_white 0 (first text))) [
      | inl a ↦ let no : piece_ok (white (take (run in_white 0 text) text)) ≡ Err f = rw a at e in absurd cc
      | inr a ↦
          elim (cases_Bool (begins_comment text)) [
            | inl b ↦
                elim (cases_Bool (eqb (comment_len text) 0)) [
                  | inl c ↦
                      let is : (0, 2) ≡ f = err_is (0, 2) f (rw (a, b, c) at e) in
                      begun (subst (λ (g : ℕ × ℕ). Faulty starts text g.0 g.1) is (open_comment refl refl b (none is_comment _ text (comment_measures text) (eqb-true _ _ c))))
                  | inr c ↦ let no : piece_ok (comment (take (comment_len text) text)) ≡ Err f = rw (a, b, c) at e in absurd cc
                ]
            | inr b ↦
                elim (cases_Bool (eqb (first text) 35)) [
                  | inl c ↦
                      elim (cases_Bool (starts && begins_skipped text)) [
                        | inl d ↦ let no : piece_ok (line (take (run in_line 0 text) text)) ≡ Err f = rw (a, b, d, c) at e in absurd cc
                        | inr d ↦
                            let is : (0, 9) ≡ f = err_is (0, 9) f (rw (a, b, d, c) at e) in
                            begun (subst (λ (g : ℕ × ℕ). Faulty starts text g.0 g.1) is (hash refl refl (eqb-true _ _ c) d))
                      ]
                  | inr c ↦
                      elim (cases_Bool (eqb (token_len text) 0)) [
                        | inl d ↦
                            let n = none is_token _ text (token_measures text) (eqb-true _ _ d) in
                            elim (cases_Bool (is_quote (first text))) [
                              | inl q ↦
                                  let is : (0, 3) ≡ f = err_is (0, 3) f (quote_read text f q (rw (a, b, c, d) at e)) in
                                  begun (subst (λ (g : ℕ × ℕ). Faulty starts text g.0 g.1) is (open_constant refl refl q n))
                              | inr q ↦
                                  elim (cases_Bool (begins_splice text)) [
                                    | inl s ↦
                                        let is : (0, 8) ≡ f = err_is (0, 8) f (splice_read text f q s (rw (a, b, c, d) at e)) in
                                        spliced (sym is) s
                                    | inr s ↦
                                        let is : (0, 1) ≡ f = err_is (0, 1) f (stray_read text f q s (rw (a, b, c, d) at e)) in
                                        begun (subst (λ (g : ℕ × ℕ). Faulty starts text g.0 g.1) is
                                        (stray refl refl some (no_white_front text a) b n q (λ x. eqb-false _ _ c x) s))
                                  ]
                            ]
                        | inr d ↦
                            let n = token_len text in
                            let some : 0 < n = not_zero n d in
                            begun (inside (take n text) (drop n text) (take_drop n text) (longest_of is_token n text (token_measures text) some) b
                            (judged_err (take n text) (faults (take n text) (first (drop n text))) f (rw (a, b, c, d) at e)))
                      ]
                ]
          ]
    ]

-- ---- The fault that is read is the least

-- the fault that is read, not after another one of the same text
pub record Least (starts : Bool) (text : List ℕ) (at rule : ℕ) : Type 0 where
  pub fault : ℕ × ℕ
  pub read : next starts text ≡ Err fault
  pub least : NotAfter fault (at, rule)
  pub some : 0 < length text

zero_of : (passes : List ℕ → Bool) (n : ℕ) (text : List ℕ) → Measures passes n text → NoFront passes text → eqb n 0 ≡ true
zero_of passes zero text m none_is = refl
zero_of passes (suc n) text m none_is = absurd (let e : suc n ≡ 0 = none_is (suc n) m.within (m.found (omega arith)) in omega arith)

no_white_of : (text : List ℕ) → NoFront is_white_run text → in_white 0 (first text) ≡ false
no_white_of [] none_is = refl
no_white_of (b ∷ z) none_is =
    elim (cases_Bool (is_white b)) [
      | inl w ↦ absurd (let e : 1 ≡ 0 = none_is 1 (omega arith) (and_from (is_white b) true w refl) in omega arith)
      | inr w ↦ w
    ]

slash_first : (text : List ℕ) → begins_comment text ≡ true → (in_white 0 (first text) ≡ false) × (0 < length text)
slash_first [] e = absurd cc
slash_first (b ∷ z) e = let p = and_parts (eqb b 47) _ e in (subst (λ c. in_white 0 c ≡ false) (sym (eqb-true b 47 p.0)) refl, omega arith)

quote_byte : (b : ℕ) (z : List ℕ) → is_quote b ≡ true → (in_white 0 b ≡ false) × (begins_comment (b ∷ z) ≡ false) × (eqb b 35 ≡ false)
quote_byte b z e =
    elim (or_cases (eqb b 39) (eqb b 34) e) [
      | inl q ↦ subst (λ c. (in_white 0 c ≡ false) × (begins_comment (c ∷ z) ≡ false) × (eqb c 35 ≡ false)) (sym (eqb-true b 39 q)) (refl, refl, refl)
      | inr q ↦ subst (λ c. (in_white 0 c ≡ false) × (begins_comment (c ∷ z) ≡ false) × (eqb c 35 ≡ false)) (sym (eqb-true b 34 q)) (refl, refl, refl)
    ]

quote_first : (text : List ℕ) → is_quote (first text) ≡ true → (in_white 0 (first text) ≡ false) × (begins_comment text ≡ false) × (eqb (first text) 35 ≡ false) × (0 < length text)
quote_first [] e = absurd cc
quote_first (b ∷ z) e = let q = quote_byte b z e in (q.0, q.1, q.2, omega arith)

sharp_first : (text : List ℕ) → first text ≡ 35 → (in_white 0 (first text) ≡ false) × (begins_comment text ≡ false) × (0 < length text)
sharp_first [] e = absurd (omega arith)
sharp_first (b ∷ z) e = subst (λ c. (in_white 0 c ≡ false) × (begins_comment (c ∷ z) ≡ false) × (0 < suc (length z))) (sym e) (refl, refl, omega arith)

at_start : (at rule r : ℕ) → at ≡ 0 → rule ≡ r → NotAfter (0, r) (at, rule)
at_start at rule r a b = inr (sym a, omega arith)

judged_least : (w : List ℕ) (after : ℕ) (fs : List (ℕ × ℕ)) (x : ℕ × ℕ) → faults w after ≡ fs → Contains fs x → (f : ℕ × ℕ) × (judged w fs ≡ Err f) × NotAfter f x
judged_least w after [] x e (k, h, is) = absurd (omega arith)
judged_least w after (g ∷ gs) x e c = (g, refl, faults_ascending w after g gs x e c)

pub fault_least : (starts : Bool) (text : List ℕ) (at rule : ℕ) → Faulty starts text at rule → Least starts text at rule
fault_least starts text at rule (stray a b some w c t q h s) =
    let ww = no_white_of text w in
    let hh : eqb (first text) 35 ≡ false = ne_eqb _ _ h in
    let zz : eqb (token_len text) 0 ≡ true = zero_of is_token _ text (token_measures text) t in
    record { fault = (0, 1); read = rw (ww, c, hh, zz) (ap (λ k. piece_err (0, k)) (unread_stray text q s)); least = at_start at rule 1 a b; some = some }
fault_least starts text at rule (open_comment a b c n) =
    let s = slash_first text c in
    let zz : eqb (comment_len text) 0 ≡ true = zero_of is_comment _ text (comment_measures text) n in
    record { fault = (0, 2); read = rw (s.0, c, zz) refl; least = at_start at rule 2 a b; some = s.1 }
fault_least starts text at rule (open_constant a b q n) =
    let s = quote_first text q in
    let zz : eqb (token_len text) 0 ≡ true = zero_of is_token _ text (token_measures text) n in
    record { fault = (0, 3); read = rw (s.0, s.1, s.2, zz) (ap (λ k. piece_err (0, k)) (unread_quote text q)); least = at_start at rule 3 a b; some = s.3 }
fault_least starts text at rule (hash a b h d) =
    let s = sharp_first text h in
    let hh : eqb (first text) 35 ≡ true = eq-eqb _ _ h in
    record { fault = (0, 9); read = rw (s.0, s.1, d, hh) refl; least = at_start at rule 9 a b; some = s.2 }
fault_least starts text at rule (inside w r is l b c) =
    let l' = subst (λ t. Longest is_token w t) is l in
    let b' = subst (λ t. begins_comment t ≡ false) is b in
    let a = token_first w r l'.passes_itself in
    let n : token_len (w ++ r) ≡ length w = one_length is_token w r _ l' (token_measures (w ++ r)) in
    let some = token_some w l'.passes_itself in
    let z : eqb (token_len (w ++ r)) 0 ≡ false = some_not_zero _ (omega arith) in
    let t = one_front is_token w r _ l' (token_measures (w ++ r)) in
    let u : drop (token_len (w ++ r)) (w ++ r) ≡ r = rw n (drop_front w r) in
    let j = judged_least w (first r) (faults w (first r)) (at, rule) refl c in
    subst (λ t. Least starts t at rule) (sym is) (record { fault = j.0; read = rw (a.no_white, b', a.no_hash, z, t, u) j.1; least = j.2; some = omega (arith, length-append w r) })

pub piece_some : (starts : Bool) (p : Piece) (r : List ℕ) → IsInPlace starts p r → 0 < length (bytes_of p)
piece_some starts (white []) r s = absurd (let e : false ≡ true = s.passes_itself in cc)
piece_some starts (white (b ∷ z)) r s = omega arith
piece_some starts (comment w) r s = (comment_first w r s.passes_itself).2
piece_some starts (line []) r s = absurd (let e : false ≡ true = s.0.passes_itself in cc)
piece_some starts (line (b ∷ z)) r s = omega arith
piece_some starts (token w k) r s = token_some w s.0.passes_itself
