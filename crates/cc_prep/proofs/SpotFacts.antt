-- Spots of the bytes of a file, and of its parts.
use Rattle.std.proofs.Common.{◌≡◌, ◌≤◌, ◌<◌, ◌+◌, ◌-◌, ◌^◌, ℕ, true, false, List, [], ◌∷◌, ◌++◌, length, take, drop, refl, sym, ap, ◌∙◌, arith, eqb, inl, inr}
use Rattle.std.specs.Prelude.{min, Contains}
use Rattle.std.specs.List.{slice_range}
use Rattle.std.proofs.Math.Seq.{take-add}
use Rattle.std.proofs.lemmas.List.{length-take, length-drop, length-append, take-append-le}
use Rattle.std.proofs.lemmas.Bool.{cases_Bool, eqb-true}
use Rattle.cc_base.specs.declared.place.Spot.{Spot}
use Rattle.cc_base.specs.Spots.{start, next_spot, spot_behind}
use Rattle.cc_lex.specs.Cut.{Cut, StandsAt}
use Rattle.cc_lex.specs.Spellings.{is_token, puncts, digraphs}
use Rattle.cc_lex.specs.Spots.{spot_at}
use Rattle.cc_lex.specs.declared.token.Token.{Token}
use Rattle.cc_prep.specs.Marks.{IsMark, IsSpotIn, shifted}
use Rattle.cc_prep.specs.declared.mark.Mark.{Mark}

spot_behind-append : (s : Spot) (y z : List ℕ) → spot_behind s (y ++ z) ≡ spot_behind (spot_behind s y) z
spot_behind-append s [] z = refl
spot_behind-append s (b ∷ y) z = spot_behind-append (next_spot s b) y z

-- the spot of an offset, from that of one before it
pub spot_at-range : (bytes : List ℕ) (a b : ℕ) → a ≤ b → spot_behind (spot_at bytes a) (slice_range bytes a b) ≡ spot_at bytes b
spot_at-range bytes a b h =
    let e : b ≡ a + (b - a) = omega arith in
    sym (ap (λ n. spot_at bytes n) e ∙ ap (spot_behind start) (take-add a (b - a) bytes) ∙ spot_behind-append start (take a bytes) (take (b - a) (drop a bytes)))

-- a mark further on
pub mark_to : (bytes : List ℕ) (m : Mark) (at : ℕ) (spot : Spot) → IsMark bytes m → m.at ≤ at → at ≤ length bytes
    → spot ≡ spot_behind m.spot (slice_range bytes m.at at)
    → spot.line ≤ m.spot.line + length (slice_range bytes m.at at) → spot.column ≤ m.spot.column + length (slice_range bytes m.at at)
    → IsMark bytes (record { at = at; spot = spot })
mark_to bytes m at spot h before within is line column =
    let n = length-take (at - m.at) (drop m.at bytes) in
    record {
      within = within;
      spot_is = is ∙ ap (λ s. spot_behind s (slice_range bytes m.at at)) h.spot_is ∙ spot_at-range bytes m.at at before;
      line = omega (arith, n, line, h.line);
      column = omega (arith, n, column, h.column);
    }

spot_eq : (a b c d : ℕ) → a ≡ c → b ≡ d → (let s : Spot = record { line = a; column = b } in s) ≡ record { line = c; column = d }
spot_eq a b c d p q = cc

module _ (f : Spot) where
  -- one byte further on in a part is one byte further on in the file
  shifted-next : (s : Spot) (b : ℕ) → 1 ≤ s.line → 1 ≤ s.column → f.line + s.line + 1 < 2 ^ 32 - 1 → f.column + s.column + 1 < 2 ^ 32 - 1
      → shifted f (next_spot s b) ≡ next_spot (shifted f s) b
  shifted-next s b l c lb cb =
      elim (cases_Bool (eqb b 10)) [
        | inl feed ↦
            let later : eqb (s.line + 1) 1 ≡ false = not_one s.line l in
            elim (cases_Bool (eqb s.line 1)) [
              | inl one ↦ let is : s.line ≡ 1 = eqb-true s.line 1 one in rw (feed, later, one) (spot_eq _ _ _ _ (omega arith) refl)
              | inr more ↦ rw (feed, later, more) (spot_eq _ _ _ _ (omega arith) refl)
            ]
        | inr other ↦
            elim (cases_Bool (eqb s.line 1)) [
              | inl one ↦ rw (other, one) (spot_eq _ _ _ _ refl (omega arith))
              | inr more ↦ rw (other, more) refl
            ]
      ]
    where
      not_one : (n : ℕ) → 1 ≤ n → eqb (n + 1) 1 ≡ false
      not_one n h = elim (cases_Bool (eqb (n + 1) 1)) [ inl e ↦ absurd (omega (arith, eqb-true (n + 1) 1 e)) | inr e ↦ e ]

  next_line : (s : Spot) (b : ℕ) → 1 ≤ s.line → (1 ≤ (next_spot s b).line) × ((next_spot s b).line ≤ s.line + 1)
  next_line s b l = elim (cases_Bool (eqb b 10)) [ inl e ↦ rw e (omega arith, omega arith) | inr e ↦ rw e (l, omega arith) ]

  next_column : (s : Spot) (b : ℕ) → 1 ≤ s.column → (1 ≤ (next_spot s b).column) × ((next_spot s b).column ≤ s.column + 1)
  next_column s b l = elim (cases_Bool (eqb b 10)) [ inl e ↦ rw e (omega arith, omega arith) | inr e ↦ rw e (omega arith, omega arith) ]

  shifted-behind : (s : Spot) (z : List ℕ) → 1 ≤ s.line → 1 ≤ s.column → f.line + s.line + length z < 2 ^ 32 - 1 → f.column + s.column + length z < 2 ^ 32 - 1
      → shifted f (spot_behind s z) ≡ spot_behind (shifted f s) z
  shifted-behind s [] l c lb cb = refl
  shifted-behind s (b ∷ z) l c lb cb =
      let n = next_line s b l in
      let k = next_column s b c in
      shifted-behind (next_spot s b) z n.0 k.0 (omega (arith, n.1)) (omega (arith, k.1))
      ∙ ap (λ t. spot_behind t z) (shifted-next s b l c (omega arith) (omega arith))

  shifted-start : f.column + 1 < 2 ^ 32 - 1 → shifted f start ≡ f
  shifted-start h = spot_eq _ _ _ _ refl (omega arith)

  pub shifted-part : (z : List ℕ) → f.line + 1 + length z < 2 ^ 32 - 1 → f.column + 1 + length z < 2 ^ 32 - 1 → shifted f (spot_behind start z) ≡ spot_behind f z
  shifted-part z lb cb =
      shifted-behind start z (omega arith) (omega arith) (omega arith) (omega arith) ∙ ap (λ s. spot_behind s z) (shifted-start (omega arith))

token_some : (w : List ℕ) → is_token w ≡ true → 0 < length w
unfolding puncts digraphs
token_some [] e = absurd (let no : true ≡ false = sym e in cc)
token_some (b ∷ z) e = omega arith

stands_within : (text : List ℕ) (offset : ℕ) (t : Token) → StandsAt text offset t → offset ≤ length text
stands_within text offset t s =
    omega (arith, token_some s.spelling s.longest.passes_itself, ap length s.there, length-append s.spelling s.rest, length-drop offset text)

-- a token of a part that begins at a mark stands at a place of the bytes
pub token_place : ((b : List ℕ) → (ts : List Token) → Cut b ts → (t : Token) → Contains ts t → (offset : ℕ) × StandsAt b offset t)
    → (bytes : List ℕ) (m : Mark) (text rest : List ℕ) (tokens : List Token) (t : Token) → length bytes ≤ 1048576 → IsMark bytes m → drop m.at bytes ≡ text ++ rest
    → Cut text tokens → Contains tokens t → IsSpotIn bytes (shifted m.spot t.spot)
token_place law bytes m text rest tokens t small h there cut among =
    let p = law text tokens cut t among in
    let k = p.0 in
    let within = stands_within text k t p.1 in
    let lengths : length text + length rest ≡ length bytes - m.at = sym (length-append text rest) ∙ sym (ap length there) ∙ length-drop m.at bytes in
    let front : take k text ≡ slice_range bytes m.at (m.at + k) = sym (take-append-le k text rest within) ∙ ap (take k) (sym there) ∙ ap (λ n. take n (drop m.at bytes)) (omega arith) in
    let n = length-take k text in (
      m.at + k,
      omega (arith, h.within),
      ap (shifted m.spot) (p.1).spot_is ∙ shifted-part m.spot (take k text) (omega (arith, n, h.line, h.within)) (omega (arith, n, h.column, h.within))
          ∙ ap (spot_behind m.spot) front ∙ ap (λ s. spot_behind s (slice_range bytes m.at (m.at + k))) h.spot_is ∙ spot_at-range bytes m.at (m.at + k) (omega arith),
    )
