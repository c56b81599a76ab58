-- A table that has all pairs of another one has as many pairs or more.
use Rattle.std.proofs.Common.{◌≡◌, ◌≢◌, ℕ, zero, suc, ◌+◌, ◌-◌, ◌*◌, ◌/◌, ◌%◌, ◌<◌, ◌≤◌, inl, inr, max, List, [], ◌∷◌, refl, sym, ap, ◌∙◌, arith}
use Rattle.std.proofs.lemmas.Bool.{cases_eq}
use Rattle.cc_blocks.specs.declared.block.Block.{Block}
use Rattle.cc_blocks.specs.Bits.{word_bit, bit, ones_below, size}
use Rattle.cc_blocks.specs.declared.row.Row.{Row}
use Rattle.cc_blocks.specs.declared.cell.Cell.{Cell}
use Rattle.cc_blocks.specs.Cells.{block_bit, row_bit, row_size, AreAscending}
use Rattle.cc_blocks.specs.Pairs.{pair_bit, pair_count, CountGrows}
use Rattle.cc_blocks.proofs.Ranks

-- the sum of a function below a bound
unfoldable pub total : (ℕ → ℕ) → ℕ → ℕ
total f zero = 0
total f (suc n) = total f n + f n

total-mono : (f g : ℕ → ℕ) (n : ℕ) → ((t : ℕ) → f t ≤ g t) → total f n ≤ total g n
unfolding total
total-mono f g zero h = omega arith
total-mono f g (suc n) h = omega (arith, total-mono f g n h, h n)

total-add : (f g s : ℕ → ℕ) (n : ℕ) → ((t : ℕ) → s t ≡ f t + g t) → total s n ≡ total f n + total g n
unfolding total
total-add f g s zero h = refl
total-add f g s (suc n) h = omega (arith, total-add f g s n h, h n)

pub total-none : (f : ℕ → ℕ) (n : ℕ) → ((t : ℕ) → t < n → f t ≡ 0) → total f n ≡ 0
unfolding total
total-none f zero h = refl
total-none f (suc n) h = omega (arith, total-none f n (λ t lt. h t (omega arith)), h n (omega arith))

total-block : (n : ℕ) (b : Block) (k : ℕ) → k ≤ 512 → total (block_bit n b) (512 * n + k) ≡ ones_below b.lanes k
unfolding total ones_below
total-block n b zero le =
    let at : 512 * n + 0 ≡ 512 * n = omega arith in
    ap (total (block_bit n b)) at ∙ total-none (block_bit n b) (512 * n) (λ t lt. Ranks.block_bit-other n b t (λ e. omega arith))
total-block n b (suc k) le =
    let at : 512 * n + suc k ≡ suc (512 * n + k) = omega arith in
    let div : (512 * n + k) / 512 ≡ n = omega arith in
    let rem : (512 * n + k) % 512 ≡ k = omega arith in
    omega (arith, ap (total (block_bit n b)) at, total-block n b k (omega arith), Ranks.block_bit-at n b (512 * n + k) div, ap (bit b) rem)

total-above : (n : ℕ) (b : Block) (m : ℕ) → total (block_bit n b) (512 * n + 512 + m) ≡ size b
unfolding total size
total-above n b zero =
    let at : 512 * n + 512 + 0 ≡ 512 * n + 512 = omega arith in
    ap (total (block_bit n b)) at ∙ total-block n b 512 (omega arith)
total-above n b (suc m) =
    let at : 512 * n + 512 + suc m ≡ suc (512 * n + 512 + m) = omega arith in
    omega (arith, ap (total (block_bit n b)) at, total-above n b m, Ranks.block_bit-other n b (512 * n + 512 + m) (λ e. omega arith))

pub total-row : (least : ℕ) (cells : List Cell) (bound : ℕ) → AreAscending least cells → bound ≡ 4294967296 → total (row_bit cells) bound ≡ row_size cells
unfolding row_bit row_size
total-row least [] bound up e = total-none (row_bit []) bound (λ t lt. refl)
total-row least (c ∷ cells) bound up e =
    let n = c.number in
    let small = Ranks.ascending-length (n + 1) cells up.1 in
    let at : bound ≡ 512 * n + 512 + (bound - 512 * n - 512) = omega arith in
    omega (
      arith,
      total-add (block_bit n c.block) (row_bit cells) (row_bit (c ∷ cells)) bound (λ t. elim (cases_eq (t / 512) n) [
        | inl same ↦ omega (arith, Ranks.row_bit-low (n + 1) cells t up.1 (omega arith))
        | inr other ↦ omega (arith, Ranks.block_bit-other n c.block t other)
      ]),
      ap (total (block_bit n c.block)) at,
      total-above n c.block (bound - 512 * n - 512),
      total-row (n + 1) cells bound up.1 e,
    )

row_size-mono : (a b : Row) → ((t : ℕ) → row_bit a.cells.items t ≤ row_bit b.cells.items t) → row_size a.cells.items ≤ row_size b.cells.items
row_size-mono a b h = go 4294967296 refl
  where
    go : (bound : ℕ) → bound ≡ 4294967296 → row_size a.cells.items ≤ row_size b.cells.items
    go bound e = omega (arith, total-row 0 a.cells.items bound a.ascending e, total-row 0 b.cells.items bound b.ascending e, total-mono (row_bit a.cells.items) (row_bit b.cells.items) bound h)

row_size-none : (a : Row) → ((t : ℕ) → row_bit a.cells.items t ≤ 0) → row_size a.cells.items ≡ 0
row_size-none a h = go 4294967296 refl
  where
    go : (bound : ℕ) → bound ≡ 4294967296 → row_size a.cells.items ≡ 0
    go bound e = sym (total-row 0 a.cells.items bound a.ascending e) ∙ total-none (row_bit a.cells.items) bound (λ t lt. omega (arith, h t))

pub count_grows : CountGrows
unfolding pair_bit pair_count
count_grows [] b h = omega arith
count_grows (x ∷ a) [] h = omega (arith, row_size-none x (λ t. h 0 t), count_grows a [] (λ k t. h (suc k) t))
count_grows (x ∷ a) (y ∷ b) h = omega (arith, row_size-mono x y (λ t. h 0 t), count_grows a b (λ k t. h (suc k) t))
