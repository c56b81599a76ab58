-- Ranks in a row, and what a row has.
use Rattle.std.proofs.Common.{◌≡◌, ◌≢◌, ℕ, zero, suc, ◌+◌, ◌-◌, ◌*◌, ◌/◌, ◌%◌, ◌<◌, ◌≤◌, inl, inr, max, List, [], ◌∷◌, ◌++◌, length, take, drop, Some, cond, eqb, ltb, refl, sym, ap, ◌∙◌, subst, arith}
use Rattle.std.specs.Prelude.{slice_get, slice_set}
use Rattle.std.specs.List.{insert}
use Rattle.std.proofs.lemmas.Bool.{cases_eq, cases_lt, ne_eqb, eq-eqb, lt-ltb, le-ltb}
use Rattle.cc_blocks.specs.declared.block.Block.{Block}
use Rattle.cc_blocks.specs.Bits.{bit, size}
use Rattle.cc_blocks.proofs.Sizes.{bit-lt, bit-above, size-add, size_some, size_none}
use Rattle.cc_blocks.specs.declared.cell.Cell.{Cell}
use Rattle.cc_blocks.specs.Cells.{block_bit, row_bit, row_size, AreAscending, rank_of}

rank_less : (c : Cell) (cells : List Cell) (n : ℕ) → c.number < n → rank_of (c ∷ cells) n ≡ suc (rank_of cells n)
rank_less c cells n h = ap (λ b. cond b (suc (rank_of cells n)) 0) (lt-ltb c.number n h)

rank_not_less : (c : Cell) (cells : List Cell) (n : ℕ) → n ≤ c.number → rank_of (c ∷ cells) n ≡ 0
rank_not_less c cells n h = ap (λ b. cond b (suc (rank_of cells n)) 0) (le-ltb c.number n h)

pub rank-le : (cells : List Cell) (n : ℕ) → rank_of cells n ≤ length cells
rank-le [] n = omega arith
rank-le (c ∷ cells) n = elim (cases_lt c.number n) [
  | inl lt ↦ omega (arith, rank_less c cells n lt, rank-le cells n)
  | inr ge ↦ omega (arith, rank_not_less c cells n ge)
]

-- a cell whose number is below n comes before the rank of n
pub rank-above : (least : ℕ) (cells : List Cell) (n k : ℕ) (c : Cell) → AreAscending least cells → slice_get cells k ≡ Some c → c.number < n → k < rank_of cells n
rank-above least [] n k c up at lt = absurd (let e = at in cc)
rank-above least (d ∷ cells) n zero c up at lt = let e : d ≡ c = cc in omega (arith, rank_less d cells n (rw e lt))
rank-above least (d ∷ cells) n (suc k) c up at lt =
    let low = above_least (d.number + 1) cells k c up.1 at in
    omega (arith, rank_less d cells n (omega arith), rank-above (d.number + 1) cells n k c up.1 at lt)
  where
    above_least : (low : ℕ) (cs : List Cell) (j : ℕ) (x : Cell) → AreAscending low cs → slice_get cs j ≡ Some x → low ≤ x.number
    above_least low [] j x u a = absurd (let e = a in cc)
    above_least low (y ∷ cs) zero x u a = let e : y ≡ x = cc in rw (← e) u.0
    above_least low (y ∷ cs) (suc j) x u a = omega (arith, above_least (y.number + 1) cs j x u.1 a, u.0)

-- a cell whose number is n or more does not come before the rank of n
pub rank-below : (cells : List Cell) (n k : ℕ) (c : Cell) → slice_get cells k ≡ Some c → n ≤ c.number → rank_of cells n ≤ k
rank-below [] n k c at le = absurd (let e = at in cc)
rank-below (d ∷ cells) n zero c at le = let e : d ≡ c = cc in omega (arith, rank_not_less d cells n (rw e le))
rank-below (d ∷ cells) n (suc k) c at le = elim (cases_lt d.number n) [
  | inl lt ↦ omega (arith, rank_less d cells n lt, rank-below cells n k c at le)
  | inr ge ↦ omega (arith, rank_not_less d cells n ge)
]

pub block_bit-at : (n : ℕ) (b : Block) (t : ℕ) → t / 512 ≡ n → block_bit n b t ≡ bit b (t % 512)
unfolding block_bit
block_bit-at n b t e = ap (λ x. cond x (bit b (t % 512)) 0) (eq-eqb (t / 512) n e)

pub block_bit-other : (n : ℕ) (b : Block) (t : ℕ) → t / 512 ≢ n → block_bit n b t ≡ 0
unfolding block_bit
block_bit-other n b t ne = ap (λ x. cond x (bit b (t % 512)) 0) (ne_eqb (t / 512) n ne)

pub block_bit-lt : (n : ℕ) (b : Block) (t : ℕ) → block_bit n b t < 2
block_bit-lt n b t = elim (cases_eq (t / 512) n) [
  | inl e ↦ omega (arith, block_bit-at n b t e, bit-lt b (t % 512))
  | inr ne ↦ omega (arith, block_bit-other n b t ne)
]

pub row_bit-lt : (cells : List Cell) (t : ℕ) → row_bit cells t < 2
unfolding row_bit
row_bit-lt [] t = omega arith
row_bit-lt (c ∷ cells) t = omega (arith, block_bit-lt c.number c.block t, row_bit-lt cells t)

pub row_bit-low : (least : ℕ) (cells : List Cell) (t : ℕ) → AreAscending least cells → t / 512 < least → row_bit cells t ≡ 0
unfolding row_bit
row_bit-low least [] t up lt = refl
row_bit-low least (c ∷ cells) t up lt =
    let first = up.0 in
    omega (arith, block_bit-other c.number c.block t (λ e. omega arith), row_bit-low (c.number + 1) cells t up.1 (omega arith))

pub row_bit-found : (least : ℕ) (cells : List Cell) (n t : ℕ) (c : Cell) → AreAscending least cells → slice_get cells (rank_of cells n) ≡ Some c → c.number ≡ n → t / 512 ≡ n → row_bit cells t ≡ bit c.block (t % 512)
unfolding row_bit
row_bit-found least [] n t c up at is e = absurd (let x = at in cc)
row_bit-found least (d ∷ cells) n t c up at is e = elim (cases_lt d.number n) [
  | inl lt ↦
      let rest = row_bit-found (d.number + 1) cells n t c up.1 (ap (slice_get (d ∷ cells)) (sym (rank_less d cells n lt)) ∙ at) is e in
      omega (arith, block_bit-other d.number d.block t (λ x. omega arith), row_bit-lt cells t)
  | inr ge ↦
      let same : slice_get (d ∷ cells) 0 ≡ Some c = ap (slice_get (d ∷ cells)) (sym (rank_not_less d cells n ge)) ∙ at in
      let e' : d ≡ c = cc in
      let here : block_bit d.number d.block t ≡ bit c.block (t % 512) = rw e' (block_bit-at c.number c.block t (e ∙ sym is)) in
      let number = ap (λ (x : Cell). x.number) e' in
      omega (arith, row_bit-low (d.number + 1) cells t up.1 (omega arith))
]

pub row_bit-absent : (least : ℕ) (cells : List Cell) (n t : ℕ) → AreAscending least cells → t / 512 ≡ n → ((c : Cell) → slice_get cells (rank_of cells n) ≡ Some c → c.number ≢ n) → row_bit cells t ≡ 0
unfolding row_bit
row_bit-absent least [] n t up e not = refl
row_bit-absent least (d ∷ cells) n t up e not = elim (cases_lt d.number n) [
  | inl lt ↦
      let rest = row_bit-absent (d.number + 1) cells n t up.1 e (λ c at. not c (ap (slice_get (d ∷ cells)) (rank_less d cells n lt) ∙ at)) in
      omega (arith, block_bit-other d.number d.block t (λ x. omega arith))
  | inr ge ↦
      let ne = not d (ap (slice_get (d ∷ cells)) (rank_not_less d cells n ge)) in
      omega (arith, block_bit-other d.number d.block t (λ x. ne (omega arith)), row_bit-low (d.number + 1) cells t up.1 (omega arith))
]

pub row_bit-set : (cells : List Cell) (k t e : ℕ) (c d : Cell) → slice_get cells k ≡ Some c → block_bit d.number d.block t ≡ max (block_bit c.number c.block t) e → row_bit (slice_set cells k d) t ≡ max (row_bit cells t) e
unfolding row_bit
row_bit-set [] k t e c d at h = absurd (let x = at in cc)
row_bit-set (x ∷ cells) zero t e c d at h = let same : x ≡ c = cc in let h' : block_bit d.number d.block t ≡ max (block_bit x.number x.block t) e = rw same h in omega arith
row_bit-set (x ∷ cells) (suc k) t e c d at h = omega (arith, row_bit-set cells k t e c d at h)

pub row_bit-append : (xs : List Cell) (c : Cell) (t : ℕ) → row_bit (xs ++ c ∷ []) t ≡ max (row_bit xs t) (block_bit c.number c.block t)
unfolding row_bit
row_bit-append [] c t = omega arith
row_bit-append (x ∷ xs) c t = omega (arith, row_bit-append xs c t)

pub row_bit-insert : (cells : List Cell) (k t : ℕ) (c : Cell) → k ≤ length cells → row_bit (insert cells k c) t ≡ max (row_bit cells t) (block_bit c.number c.block t)
unfolding row_bit
row_bit-insert [] zero t c h = omega arith
row_bit-insert [] (suc k) t c h = absurd (omega arith)
row_bit-insert (x ∷ cells) zero t c h = omega arith
row_bit-insert (x ∷ cells) (suc k) t c h = omega (arith, row_bit-insert cells k t c (omega arith))

pub ascending-set : (least : ℕ) (cells : List Cell) (k : ℕ) (c d : Cell) → AreAscending least cells → slice_get cells k ≡ Some c → d.number ≡ c.number → AreAscending least (slice_set cells k d)
ascending-set least [] k c d up at e = up
ascending-set least (x ∷ cells) zero c d up at e =
    let same : x ≡ c = cc in
    let number : x.number ≡ d.number = ap (λ (y : Cell). y.number) same ∙ sym e in
    rw number at up
ascending-set least (x ∷ cells) (suc k) c d up at e = (up.0, ascending-set (x.number + 1) cells k c d up.1 at e)

pub ascending-insert : (least : ℕ) (cells : List Cell) (c : Cell) → AreAscending least cells → least ≤ c.number → c.number < 8388608 → ((d : Cell) → slice_get cells (rank_of cells c.number) ≡ Some d → d.number ≢ c.number) → AreAscending least (insert cells (rank_of cells c.number) c)
ascending-insert least [] c up le lt not = (le, omega arith)
ascending-insert least (d ∷ cells) c up le lt not = elim (cases_lt d.number c.number) [
  | inl less ↦
      let rest = ascending-insert (d.number + 1) cells c up.1 (omega arith) lt (λ x at. not x (ap (slice_get (d ∷ cells)) (rank_less d cells c.number less) ∙ at)) in
      subst (λ r. AreAscending least (insert (d ∷ cells) r c)) (sym (rank_less d cells c.number less)) (up.0, rest)
  | inr ge ↦
      let ne = not d (ap (slice_get (d ∷ cells)) (rank_not_less d cells c.number ge)) in
      subst (λ r. AreAscending least (insert (d ∷ cells) r c)) (sym (rank_not_less d cells c.number ge)) (le, (above ne ge, up.1))
]
  where
    above : d.number ≢ c.number → c.number ≤ d.number → c.number + 1 ≤ d.number
    above ne ge = omega arith

pub row_size-set : (cells : List Cell) (k : ℕ) (c d : Cell) → slice_get cells k ≡ Some c → row_size (slice_set cells k d) + size c.block ≡ row_size cells + size d.block
unfolding row_size
row_size-set [] k c d at = absurd (let x = at in cc)
row_size-set (x ∷ cells) zero c d at = let e : size x.block ≡ size c.block = ap (λ (y : Cell). size y.block) (let same : x ≡ c = cc in same) in omega arith
row_size-set (x ∷ cells) (suc k) c d at = omega (arith, row_size-set cells k c d at)

pub row_size-insert : (cells : List Cell) (k : ℕ) (c : Cell) → k ≤ length cells → row_size (insert cells k c) ≡ row_size cells + size c.block
unfolding row_size
row_size-insert [] zero c h = omega arith
row_size-insert [] (suc k) c h = absurd (omega arith)
row_size-insert (x ∷ cells) zero c h = omega arith
row_size-insert (x ∷ cells) (suc k) c h = omega (arith, row_size-insert cells k c (omega arith))

pub ascending-length : (least : ℕ) (cells : List Cell) → AreAscending least cells → length cells + least ≤ 8388608
ascending-length least [] up = omega arith
ascending-length least (c ∷ cells) up = let first = up.0 in omega (arith, ascending-length (c.number + 1) cells up.1)

pub ascending-number : (least : ℕ) (cells : List Cell) (k : ℕ) (c : Cell) → AreAscending least cells → slice_get cells k ≡ Some c → c.number < 8388608
ascending-number least [] k c up at = absurd (let x = at in cc)
ascending-number least (x ∷ cells) zero c up at = let e = ap (λ (y : Cell). y.number) (let same : x ≡ c = cc in same) in omega (arith, ascending-length (x.number + 1) cells up.1)
ascending-number least (x ∷ cells) (suc k) c up at = ascending-number (x.number + 1) cells k c up.1 at

-- the cells from a rank on
pub row_bit-from_rank : (cells : List Cell) (n t : ℕ) → n ≤ t / 512 → row_bit (drop (rank_of cells n) cells) t ≡ row_bit cells t
unfolding row_bit
row_bit-from_rank [] n t h = refl
row_bit-from_rank (c ∷ cells) n t h = elim (cases_lt c.number n) [
  | inl lt ↦ ap (λ r. row_bit (drop r (c ∷ cells)) t) (rank_less c cells n lt) ∙ omega (arith, row_bit-from_rank cells n t h, block_bit-other c.number c.block t (λ e. omega arith))
  | inr ge ↦ ap (λ r. row_bit (drop r (c ∷ cells)) t) (rank_not_less c cells n ge)
]

pub ascending-from_rank : (least : ℕ) (cells : List Cell) (n : ℕ) → n ≤ 8388608 → AreAscending least cells → AreAscending n (drop (rank_of cells n) cells)
ascending-from_rank least [] n h up = h
ascending-from_rank least (c ∷ cells) n h up = elim (cases_lt c.number n) [
  | inl lt ↦ subst (λ r. AreAscending n (drop r (c ∷ cells))) (sym (rank_less c cells n lt)) (ascending-from_rank (c.number + 1) cells n h up.1)
  | inr ge ↦ subst (λ r. AreAscending n (drop r (c ∷ cells))) (sym (rank_not_less c cells n ge)) (ge, up.1)
]

-- a row has no target from 2 ^ 32 on
pub row_bit-high : (least : ℕ) (cells : List Cell) (t : ℕ) → AreAscending least cells → 4294967296 ≤ t → row_bit cells t ≡ 0
unfolding row_bit
row_bit-high least [] t up h = refl
row_bit-high least (c ∷ cells) t up h = omega (arith, block_bit-other c.number c.block t (λ e. omega (arith, ascending-length (c.number + 1) cells up.1)), row_bit-high (c.number + 1) cells t up.1 h)
