-- A block as the set of its bits.
use Rattle.std.specs.Prelude.{◌≡◌, ℕ, zero, suc, ◌+◌, ◌/◌, ◌%◌, List, slice_index}
use Rattle.std.specs.Int.{bit_at}
use Rattle.cc_blocks.specs.declared.block.Block.{Block}

-- bit i of words of 64 bits
unfoldable pub word_bit : List ℕ → ℕ → ℕ
word_bit words i = bit_at (slice_index words (i / 64)) (i % 64)

-- 1 where the number is in the set, and else 0
abbrev pub bit : Block → ℕ → ℕ
bit block i = word_bit block.lanes i

-- how many bits below a bound are 1
unfoldable pub ones_below : List ℕ → ℕ → ℕ
ones_below words zero = 0
ones_below words (suc n) = ones_below words n + word_bit words n

-- how many numbers are in the set
unfoldable pub size : Block → ℕ
size block = ones_below block.lanes 512
