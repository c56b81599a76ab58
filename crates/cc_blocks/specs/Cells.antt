-- A row of cells as the set of its targets.
use Rattle.std.specs.Prelude.{◌≡◌, ℕ, zero, suc, ◌+◌, ◌/◌, ◌%◌, ◌≤◌, max, if◌then◌else◌, ◌==◌, nat_lt, nat_eq, Bool, List, [], ◌∷◌}
use Rattle.std.specs.Coded.{×_prop, le_prop}
use Rattle.cc_blocks.specs.declared.block.Block.{Block}
use Rattle.cc_blocks.specs.Bits.{bit, size}
use Rattle.cc_blocks.specs.declared.cell.Cell.{Cell}

-- 1 where the block of this number has the target
unfoldable pub block_bit : ℕ → Block → ℕ → ℕ
block_bit number block target = if target / 512 == number then bit block (target % 512) else 0

-- 1 where a cell of the row has the target
unfoldable pub row_bit : List Cell → ℕ → ℕ
row_bit [] target = 0
row_bit (cell ∷ cells) target = max (block_bit cell.number cell.block target) (row_bit cells target)

-- whether a cell of the row has the target
abbrev pub has_bit : List Cell → ℕ → Bool
has_bit cells target = nat_eq (row_bit cells target) 1

-- how many targets below a bound the cells have
unfoldable pub targets_below : List Cell → ℕ → ℕ
targets_below cells zero = 0
targets_below cells (suc n) = targets_below cells n + row_bit cells n

-- how many targets the cells have
unfoldable pub row_size : List Cell → ℕ
row_size [] = 0
row_size (cell ∷ cells) = size cell.block + row_size cells

-- the numbers ascend from a least one on, and are below 2 ^ 23
abbrev pub AreAscending : ℕ → List Cell → Type 0
AreAscending least [] = least ≤ 8388608
AreAscending least (cell ∷ cells) = (least ≤ cell.number) × AreAscending (cell.number + 1) cells

-- how many cells the row begins with whose numbers are below this one
abbrev pub rank_of : List Cell → ℕ → ℕ
rank_of [] number = 0
rank_of (cell ∷ cells) number = if nat_lt cell.number number then suc (rank_of cells number) else 0

-- which is a proposition
pub AreAscending-IsProp : (least : ℕ) (cells : List Cell) → IsProp (AreAscending least cells)
AreAscending-IsProp least [] = le_prop
AreAscending-IsProp least (cell ∷ cells) = ×_prop le_prop (AreAscending-IsProp (cell.number + 1) cells)
