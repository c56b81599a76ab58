-- Pairs of a table after a row was changed.
use Rattle.std.proofs.Common.{◌≡◌, ◌≢◌, ℕ, zero, suc, ◌+◌, ◌-◌, ◌/◌, ◌%◌, ◌<◌, ◌≤◌, inl, inr, max, List, [], ◌∷◌, ◌++◌, length, slice_index_or, Some, refl, sym, ap, ◌∙◌, arith}
use Rattle.std.specs.Prelude.{slice_get, slice_set}
use Rattle.std.proofs.lemmas.Bool.{cases_eq}
use Rattle.std.proofs.lemmas.Option.{slice_get_read}
use Rattle.cc_blocks.specs.declared.block.Block.{Block}
use Rattle.cc_blocks.specs.Bits.{bit}
use Rattle.cc_blocks.specs.declared.row.Row.{Row}
use Rattle.cc_blocks.specs.Cells.{row_bit, row_size, block_bit}
use Rattle.cc_blocks.specs.Pairs.{pair_bit, pair_count}
use Rattle.cc_blocks.proofs.Ranks

pub pair_bit-row : (rows : List Row) (h : ℕ) (row : Row) → slice_get rows h ≡ Some row → (t : ℕ) → pair_bit rows h t ≡ row_bit row.cells.items t
unfolding pair_bit
pair_bit-row [] h row at t = absurd (let e = at in cc)
pair_bit-row (r ∷ rows) zero row at t = ap (λ (x : Row). row_bit x.cells.items t) (let e : r ≡ row = (let q = at in cc) in e)
pair_bit-row (r ∷ rows) (suc h) row at t = pair_bit-row rows h row at t

pub pair_bit-set_at : (rows : List Row) (h : ℕ) (r : Row) (t : ℕ) → h < length rows → pair_bit (slice_set rows h r) h t ≡ row_bit r.cells.items t
unfolding pair_bit
pair_bit-set_at [] h r t lt = absurd (omega arith)
pair_bit-set_at (x ∷ rows) zero r t lt = refl
pair_bit-set_at (x ∷ rows) (suc h) r t lt = pair_bit-set_at rows h r t (omega arith)

pub pair_bit-set_other : (rows : List Row) (h k : ℕ) (r : Row) (t : ℕ) → k ≢ h → pair_bit (slice_set rows h r) k t ≡ pair_bit rows k t
unfolding pair_bit
pair_bit-set_other [] h k r t ne = refl
pair_bit-set_other (x ∷ rows) zero zero r t ne = absurd (ne refl)
pair_bit-set_other (x ∷ rows) zero (suc k) r t ne = refl
pair_bit-set_other (x ∷ rows) (suc h) zero r t ne = refl
pair_bit-set_other (x ∷ rows) (suc h) (suc k) r t ne = pair_bit-set_other rows h k r t (λ e. ne (ap suc e))

pub pair_count-set : (rows : List Row) (h : ℕ) (row r : Row) → slice_get rows h ≡ Some row → pair_count (slice_set rows h r) + row_size row.cells.items ≡ pair_count rows + row_size r.cells.items
unfolding pair_count
pair_count-set [] h row r at = absurd (let e = at in cc)
pair_count-set (x ∷ rows) zero row r at = let e = ap (λ (y : Row). row_size y.cells.items) (let same : x ≡ row = (let q = at in cc) in same) in omega arith
pair_count-set (x ∷ rows) (suc h) row r at = omega (arith, pair_count-set rows h row r at)

pub pair_bit-lt : (rows : List Row) (h t : ℕ) → pair_bit rows h t < 2
unfolding pair_bit
pair_bit-lt [] h t = omega arith
pair_bit-lt (x ∷ rows) zero t = Ranks.row_bit-lt x.cells.items t
pair_bit-lt (x ∷ rows) (suc h) t = pair_bit-lt rows h t

-- a holder that has a target is within the table
pub pair_bit-within : (rows : List Row) (h t : ℕ) → pair_bit rows h t ≡ 1 → h < length rows
unfolding pair_bit
pair_bit-within [] h t e = absurd (omega arith)
pair_bit-within (x ∷ rows) zero t e = omega arith
pair_bit-within (x ∷ rows) (suc h) t e = omega (arith, pair_bit-within rows h t e)

pub pair_bit-push : (rows : List Row) (r : Row) → r.cells.items ≡ [] → ((h t : ℕ) → pair_bit rows h t ≡ 0) → (h t : ℕ) → pair_bit (rows ++ r ∷ []) h t ≡ 0
unfolding pair_bit row_bit
pair_bit-push [] r e none zero t = ap (λ xs. row_bit xs t) e
pair_bit-push [] r e none (suc h) t = refl
pair_bit-push (x ∷ rows) r e none zero t = none 0 t
pair_bit-push (x ∷ rows) r e none (suc h) t = pair_bit-push rows r e (λ k u. none (suc k) u) h t

pub pair_count-push : (rows : List Row) (r : Row) → r.cells.items ≡ [] → pair_count rows ≡ 0 → pair_count (rows ++ r ∷ []) ≡ 0
unfolding pair_count row_size
pair_count-push [] r e none = omega (arith, ap row_size e)
pair_count-push (x ∷ rows) r e none = omega (arith, pair_count-push rows r e (omega arith))

-- a block of one bit
pub one_bit : (b : Block) (target t : ℕ) → bit b (target % 512) ≡ 1 → ((i : ℕ) → i ≢ target % 512 → bit b i ≡ 0) → t ≢ target → block_bit (target / 512) b t ≡ 0
one_bit b target t at others ne = elim (cases_eq (t / 512) (target / 512)) [
  | inl same ↦ Ranks.block_bit-at (target / 512) b t same ∙ others (t % 512) (λ e. ne (omega arith))
  | inr other ↦ Ranks.block_bit-other (target / 512) b t other
]

pub pair_bit-set_twice : (rows : List Row) (h k : ℕ) (x y : Row) (t : ℕ) → k ≢ h → pair_bit (slice_set (slice_set rows h x) h y) k t ≡ pair_bit rows k t
pair_bit-set_twice rows h k x y t ne = pair_bit-set_other (slice_set rows h x) h k y t ne ∙ pair_bit-set_other rows h k x t ne

pub set_twice : (rows : List Row) (h : ℕ) (x y : Row) → slice_set (slice_set rows h x) h y ≡ slice_set rows h y
set_twice [] h x y = refl
set_twice (r ∷ rows) zero x y = refl
set_twice (r ∷ rows) (suc h) x y = ap (λ rs. r ∷ rs) (set_twice rows h x y)

pub row_is : (rows : List Row) (h t : ℕ) (r : Row) → h < length rows → r ≡ slice_index_or rows h r → row_bit r.cells.items t ≡ pair_bit rows h t
row_is rows h t r lt e = sym (pair_bit-row rows h r (slice_get_read rows (length rows) h r refl lt e) t)
