-- Lines and columns by counts.
use Rattle.std.proofs.Common.{◌≡◌, ℕ, ◌+◌, true, false, cond, eqb, List, [], ◌∷◌, length, refl, ◌∙◌, arith, inl, inr}
use Rattle.std.specs.List.{count_by, list_any}
use Rattle.std.proofs.lemmas.List.Sums.{sum_by-cons}
use Rattle.std.proofs.lemmas.Bool.{cases_Bool}
use Rattle.cc_base.specs.declared.place.Spot.{Spot}
use Rattle.cc_base.specs.Spots.{start, next_spot, spot_behind}
use Rattle.cc_lex.specs.Spots.{is_feed, behind_last}

byte_line : (s : Spot) (b : ℕ) → (next_spot s b).line ≡ s.line + cond (eqb b 10) 1 0
byte_line s b = elim (cases_Bool (eqb b 10)) [ inl e ↦ rw e refl | inr e ↦ rw e (omega arith) ]

byte_column : (s : Spot) (b : ℕ) → (next_spot s b).column ≡ cond (eqb b 10) 1 (s.column + 1)
byte_column s b = elim (cases_Bool (eqb b 10)) [ inl e ↦ rw e refl | inr e ↦ rw e refl ]

pub after_line : (s : Spot) (z : List ℕ) → (spot_behind s z).line ≡ s.line + count_by is_feed z
after_line s [] = omega arith
after_line s (b ∷ z) =
    let again : (spot_behind (next_spot s b) z).line ≡ (next_spot s b).line + count_by is_feed z = after_line (next_spot s b) z in
    let c : count_by is_feed (b ∷ z) ≡ cond (eqb b 10) 1 0 + count_by is_feed z = sum_by-cons (λ x. cond (is_feed x) 1 0) b z in
    omega (arith, byte_line s b, again, c)

pub after_column : (s : Spot) (z : List ℕ) → (spot_behind s z).column ≡ cond (list_any is_feed z) (1 + length (behind_last z)) (s.column + length z)
after_column s [] = omega arith
after_column s (b ∷ z) =
    let again : (spot_behind (next_spot s b) z).column ≡ cond (list_any is_feed z) (1 + length (behind_last z)) ((next_spot s b).column + length z) = after_column (next_spot s b) z in
    again ∙ ends s b z (next_spot s b).column (byte_column s b)
  where
    ends : (s : Spot) (b : ℕ) (z : List ℕ) (k : ℕ) → k ≡ cond (eqb b 10) 1 (s.column + 1)
        → cond (list_any is_feed z) (1 + length (behind_last z)) (k + length z) ≡ cond (list_any is_feed (b ∷ z)) (1 + length (behind_last (b ∷ z))) (s.column + length (b ∷ z))
    ends s b z k e =
        elim (cases_Bool (eqb b 10)) [
          | inl f ↦
              let r : k ≡ 1 = rw f at e in
              elim (cases_Bool (list_any is_feed z)) [ inl a ↦ rw (f, a) refl | inr a ↦ rw (f, a, r) refl ]
          | inr f ↦
              let r : k ≡ s.column + 1 = rw f at e in
              elim (cases_Bool (list_any is_feed z)) [ inl a ↦ rw (f, a) refl | inr a ↦ rw (f, a, r) (omega arith) ]
        ]

behind_none : (z : List ℕ) → list_any is_feed z ≡ false → behind_last z ≡ z
behind_none [] e = refl
behind_none (b ∷ z) e =
    elim (cases_Bool (eqb b 10)) [
      | inl f ↦ absurd (let no : true ≡ false = rw f at e in cc)
      | inr f ↦ let a : list_any is_feed z ≡ false = rw f at e in rw (a, f) refl
    ]

pub start_column : (z : List ℕ) → (spot_behind start z).column ≡ 1 + length (behind_last z)
start_column z =
    let e = after_column start z in
    elim (cases_Bool (list_any is_feed z)) [ inl a ↦ rw a at e | inr a ↦ let r : (spot_behind start z).column ≡ 1 + length z = rw a at e in rw (behind_none z a) r ]

pub start_line : (z : List ℕ) → (spot_behind start z).line ≡ 1 + count_by is_feed z
start_line z = after_line start z

pub ruleset spot_laws = (start_line, start_column)
