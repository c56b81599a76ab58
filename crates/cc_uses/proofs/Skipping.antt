-- Numbers that are no parts of an lvalue are skipped.
use Rattle.std.proofs.Common.{◌≡◌, ℕ, zero, suc, ◌+◌, ◌-◌, ◌<◌, ◌≤◌, true, false, if◌then◌else◌, List, [], ◌∷◌, length, drop, refl, sym, ap, ◌∙◌, arith}
use Rattle.std.proofs.lemmas.List.{drop-drop, length-drop}
use Rattle.cc_facts.specs.declared.facts.Facts.{Facts}
use Rattle.cc_facts.specs.Told.{has_part}
use Rattle.cc_listed.specs.declared.table.Access.{Access}
use Rattle.cc_parts.specs.declared.part.Part.{Part}
use Rattle.cc_uses.specs.declared.put.Reach.{Reach}
use Rattle.cc_uses.specs.Accessing.{with_part, with_parts}

first_dropped : {A : Type 0} (xs : List A) (n : ℕ) → n < length xs → (x : A) × (drop n xs ≡ x ∷ drop (n + 1) xs)
first_dropped [] n lt = absurd (omega arith)
first_dropped (y ∷ ys) zero lt = (y, refl)
first_dropped (y ∷ ys) (suc n) lt =
    let h = first_dropped ys n (omega arith) in
    let same : suc (n + 1) ≡ suc n + 1 = omega arith in
    (h.0, h.1 ∙ ap (λ m. h.0 ∷ drop m (y ∷ ys)) same)

module _ (F : Facts) (r : Reach) (point l : ℕ) where
  -- the first of these is no part of the lvalue, or is one
  lacks : (x : Part) (xs : List Part) (i : ℕ) (out : List Access) → has_part F l i ≡ false
      → with_parts F r point l (x ∷ xs) i out ≡ with_parts F r point l xs (i + 1) out
  lacks x xs i out none = ap (λ b. with_parts F r point l xs (i + 1) (if b then with_part r point l (x ∷ xs) i out else out)) none

  has : (x : Part) (xs : List Part) (i : ℕ) (out : List Access) → has_part F l i ≡ true
      → with_parts F r point l (x ∷ xs) i out ≡ with_parts F r point l xs (i + 1) (with_part r point l (x ∷ xs) i out)
  has x xs i out one = ap (λ b. with_parts F r point l xs (i + 1) (if b then with_part r point l (x ∷ xs) i out else out)) one

  -- none of the first d of these is one
  skip : (xs : List Part) (i d : ℕ) (out : List Access) → ((u : ℕ) → i ≤ u → u < i + d → has_part F l u ≡ false)
      → with_parts F r point l xs i out ≡ with_parts F r point l (drop d xs) (i + d) out
  skip xs i zero out none = let same : i ≡ i + 0 = omega arith in ap (λ m. with_parts F r point l xs m out) same
  skip [] i (suc d) out none = refl
  skip (x ∷ xs) i (suc d) out none =
      let rest = skip xs (i + 1) d out (λ u low high. none u (omega arith) (omega arith)) in
      let same : i + 1 + d ≡ i + suc d = omega arith in
      lacks x xs i out (none i (omega arith) (omega arith)) ∙ (rest ∙ ap (λ m. with_parts F r point l (drop d xs) m out) same)

  no_more : (xs : List Part) (i : ℕ) (out : List Access) → ((u : ℕ) → i ≤ u → u < i + length xs → has_part F l u ≡ false)
      → with_parts F r point l xs i out ≡ out
  no_more [] i out none = refl
  no_more (x ∷ xs) i out none =
      lacks x xs i out (none i (omega arith) (omega arith)) ∙ no_more xs (i + 1) out (λ u low high. none u (omega arith) (omega arith))

  -- nothing is put where no part is left
  pub all_put : (parts : List Part) (from count : ℕ) (out : List Access) → count ≡ length parts
      → ((u : ℕ) → from ≤ u → u < count → has_part F l u ≡ false) → with_parts F r point l (drop from parts) from out ≡ out
  all_put parts from count out all none =
      no_more (drop from parts) from out (λ u low high. none u low (omega (arith, length-drop from parts)))

  at_part : (parts : List Part) (q : ℕ) (out : List Access) → q < length parts → has_part F l q ≡ true
      → with_parts F r point l (drop q parts) q out ≡ with_parts F r point l (drop (q + 1) parts) (q + 1) (with_part r point l (drop q parts) q out)
  at_part parts q out lt one =
      let h = first_dropped parts q lt in
      let to = ap (λ xs. with_parts F r point l xs q out) h.1 in
      let back = ap (λ xs. with_parts F r point l (drop (q + 1) parts) (q + 1) (with_part r point l xs q out)) (sym h.1) in
      to ∙ (has h.0 (drop (q + 1) parts) q out one ∙ back)

  -- the next part's slots are put
  pub next_put : (parts : List Part) (from q : ℕ) (out : List Access) → from ≤ q → q < length parts → has_part F l q ≡ true
      → ((u : ℕ) → from ≤ u → u < q → has_part F l u ≡ false)
      → with_parts F r point l (drop from parts) from out ≡ with_parts F r point l (drop (q + 1) parts) (q + 1) (with_part r point l (drop q parts) q out)
  next_put parts from q out le lt one none =
      let d : ℕ = q - from in
      let there : from + d ≡ q = omega arith in
      let skipped = skip (drop from parts) from d out (λ u low high. none u low (omega arith)) in
      let dropped : drop d (drop from parts) ≡ drop q parts = drop-drop d from parts ∙ ap (λ m. drop m parts) there in
      let moved = ap (λ xs. with_parts F r point l xs (from + d) out) dropped ∙ ap (λ m. with_parts F r point l (drop q parts) m out) there in
      skipped ∙ (moved ∙ at_part parts q out lt one)
