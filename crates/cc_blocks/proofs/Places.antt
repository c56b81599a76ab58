-- Rows and tables counted, and the targets of a row by their places.
use Rattle.std.proofs.Common.{◌≡◌, ℕ, zero, suc, ◌+◌, ◌-◌, ◌<◌, ◌≤◌, List, [], ◌∷◌, ◌++◌, take, refl, sym, ap, ◌∙◌, arith, inl, inr, Bool, true, false, nat_eq, ◌↔◌, IsTrue}
use Rattle.std.specs.Prelude.{slice_get, Option, Some, None, IfSome, IfNone}
use Rattle.std.proofs.lemmas.Bool.{cases_lt, false≢true}
use Rattle.std.proofs.lemmas.Bool.Decides.{eqb_tells}
use Rattle.cc_blocks.specs.declared.cell.Cell.{Cell}
use Rattle.cc_blocks.specs.declared.row.Row.{Row}
use Rattle.cc_blocks.specs.Bits.{size}
use Rattle.cc_blocks.specs.Cells.{row_bit, row_size, targets_below, AreAscending}
use Rattle.cc_blocks.specs.Pairs.{pair_count, count_in, pair_bit, has_pair}
use Rattle.cc_blocks.proofs.Counts.{total, total-row, total-none}
use Rattle.cc_blocks.proofs.Edits
use Rattle.cc_blocks.proofs.Ranks

pub row_size-push : (cells : List Cell) (c : Cell) → row_size (cells ++ c ∷ []) ≡ row_size cells + size c.block
unfolding row_size
row_size-push [] c = omega arith
row_size-push (x ∷ cells) c = omega (arith, row_size-push cells c)

pub row_size-next : (cells : List Cell) (k : ℕ) (c : Cell) → slice_get cells k ≡ Some c → row_size (take (k + 1) cells) ≡ row_size (take k cells) + size c.block
row_size-next cells k c at = ap row_size (Edits.take_next cells k c at) ∙ row_size-push (take k cells) c

pub pair_count-next : (rows : List Row) (k : ℕ) → pair_count (take (suc k) rows) ≡ pair_count (take k rows) + count_in (slice_get rows k)
unfolding pair_count
pair_count-next [] zero = refl
pair_count-next [] (suc k) = refl
pair_count-next (x ∷ rows) zero = omega arith
pair_count-next (x ∷ rows) (suc k) = omega (arith, pair_count-next rows k)

pub pair_count-step : (rows : List Row) (k : ℕ) → pair_count (take (k + 1) rows) ≡ pair_count (take k rows) + count_in (slice_get rows k)
pair_count-step rows k =
    let e : k + 1 ≡ suc k = omega arith in
    ap (λ n. pair_count (take n rows)) e ∙ pair_count-next rows k

-- no targets from one number up to another, so as many are below both
pub below-gap : (cells : List Cell) (n m : ℕ) → ((t : ℕ) → n ≤ t → t < n + m → row_bit cells t ≡ 0) → targets_below cells (n + m) ≡ targets_below cells n
unfolding targets_below
below-gap cells n zero none = ap (targets_below cells) (let e : n + 0 ≡ n = omega arith in e)
below-gap cells n (suc m) none =
    let at : n + suc m ≡ suc (n + m) = omega arith in
    omega (arith, ap (targets_below cells) at, below-gap cells n m (λ t le lt. none t le (omega arith)), none (n + m) (omega arith) (omega arith))

-- the next target has one more below it
pub below-next : (cells : List Cell) (t u : ℕ) → row_bit cells t ≡ 1 → t < u → ((v : ℕ) → t < v → v < u → row_bit cells v ≡ 0) → targets_below cells u ≡ targets_below cells t + 1
unfolding targets_below
below-next cells t u is lt none =
    let at : u ≡ suc t + (u - suc t) = omega arith in
    omega (arith, ap (targets_below cells) at, below-gap cells (suc t) (u - suc t) (λ v le below. none v (omega arith) (omega arith)), is)

pub below-first : (cells : List Cell) (t : ℕ) → ((v : ℕ) → 0 ≤ v → v < t → row_bit cells v ≡ 0) → targets_below cells t ≡ 0
unfolding targets_below
below-first cells t none =
    let at : t ≡ 0 + t = omega arith in
    ap (targets_below cells) at ∙ below-gap cells 0 t (λ v le lt. none v le (omega arith))

pub below-total : (cells : List Cell) (n : ℕ) → targets_below cells n ≡ total (row_bit cells) n
unfolding targets_below total
below-total cells zero = refl
below-total cells (suc n) = ap (λ k. k + row_bit cells n) (below-total cells n)

-- where none is above, these are all
pub below-all : (cells : List Cell) (t : ℕ) → AreAscending 0 cells → row_bit cells t ≡ 1 → ((v : ℕ) → t < v → row_bit cells v ≡ 0) → row_size cells ≡ targets_below cells t + 1
below-all cells t up is none = go 4294967296 refl
  where
    go : (bound : ℕ) → bound ≡ 4294967296 → row_size cells ≡ targets_below cells t + 1
    go bound e = elim (cases_lt t bound) [
      | inl lt ↦ omega (arith, total-row 0 cells bound up e, below-total cells bound, below-next cells t bound is lt (λ v above below. none v above))
      | inr ge ↦ absurd (let no = Ranks.row_bit-high 0 cells t up (omega arith) in omega arith)
    ]

pub below-empty : (cells : List Cell) → AreAscending 0 cells → ((v : ℕ) → 0 ≤ v → row_bit cells v ≡ 0) → row_size cells ≡ 0
below-empty cells up none = go 4294967296 refl
  where
    go : (bound : ℕ) → bound ≡ 4294967296 → row_size cells ≡ 0
    go bound e = sym (total-row 0 cells bound up e) ∙ total-none (row_bit cells) bound (λ t lt. none t (omega arith))

-- what is next on the way to a place, where so many are left
abbrev pub IsOnWay : List Cell → ℕ → ℕ → Option ℕ → Type 0
IsOnWay cells place left (Some t) = (row_bit cells t ≡ 1) × (targets_below cells t + left ≡ place)
IsOnWay cells place left None = row_size cells + left ≤ place

pub first_on_way : (cells : List Cell) (place : ℕ) (r : Option ℕ) → AreAscending 0 cells →
    IfSome r (λ t. (0 ≤ t) × (row_bit cells t ≡ 1) × ((v : ℕ) → 0 ≤ v → v < t → row_bit cells v ≡ 0)) → IfNone r ((v : ℕ) → 0 ≤ v → row_bit cells v ≡ 0) → IsOnWay cells place place r
first_on_way cells place (Some t) up some none = (some.1, omega (arith, below-first cells t some.2))
first_on_way cells place None up some none = omega (arith, below-empty cells up none)

pub next_on_way : (cells : List Cell) (place left t : ℕ) (r : Option ℕ) → AreAscending 0 cells → IsOnWay cells place left (Some t) → 0 < left →
    IfSome r (λ u. (t < u) × (row_bit cells u ≡ 1) × ((v : ℕ) → t < v → v < u → row_bit cells v ≡ 0)) → IfNone r ((v : ℕ) → t < v → row_bit cells v ≡ 0) → IsOnWay cells place (left - 1) r
next_on_way cells place left t (Some u) up way lt some none = (some.1, (let w = way.1 in omega (arith, below-next cells t u way.0 some.0 some.2)))
next_on_way cells place left t None up way lt some none = (let w = way.1 in omega (arith, below-all cells t up way.0 none))

-- a test that tells whether a number is 1
pub told : (b : Bool) (n : ℕ) → (IsTrue b ↔ (n ≡ 1)) → b ≡ nat_eq n 1
told true n h = elim (eqb_tells n 1) [
  | inl is ↦ sym is.0
  | inr other ↦ absurd (other.1 (h.0 refl))
]
told false n h = elim (eqb_tells n 1) [
  | inl is ↦ absurd (false≢true (h.1 is.1))
  | inr other ↦ sym other.0
]

-- the test of a pair, and the pair
pub pair_told : (rows : List Row) (h t : ℕ) → has_pair rows h t ≡ true → pair_bit rows h t ≡ 1
unfolding pair_bit
pair_told [] h t is = absurd (let e = is in cc)
pair_told (x ∷ rows) zero t is = elim (eqb_tells (row_bit x.cells.items t) 1) [
  | inl one ↦ one.1
  | inr other ↦ absurd (let e = sym other.0 ∙ is in cc)
]
pair_told (x ∷ rows) (suc h) t is = pair_told rows h t is

pub told_pair : (rows : List Row) (h t : ℕ) → pair_bit rows h t ≡ 1 → has_pair rows h t ≡ true
unfolding pair_bit
told_pair [] h t is = absurd (omega arith)
told_pair (x ∷ rows) zero t is = elim (eqb_tells (row_bit x.cells.items t) 1) [
  | inl one ↦ one.0
  | inr other ↦ absurd (other.1 is)
]
told_pair (x ∷ rows) (suc h) t is = told_pair rows h t is

abbrev pub some_target : ℕ → Option ℕ
some_target t = Some t
