-- Paths that no inner point clears, and what a sweep keeps.
use Rattle.std.specs.Prelude.{◌≡◌, ℕ, zero, suc, ◌+◌, ◌-◌, ◌<◌, ◌≤◌, ◌⊎◌, List, [], ◌∷◌, length, Some, slice_get, Contains}
use Rattle.std.specs.declared.vec.Vec.{Vec}
use Rattle.std.specs.declared.alloc.Global.{Global}
use Rattle.cc_blocks.specs.declared.block.Block.{Block}
use Rattle.cc_blocks.specs.Bits.{bit, size}

abbrev pub Next : Type 0
Next = List (Vec ℕ Global)

pub record HasEdge (next : Next) (a b : ℕ) : Type 0 where
  pub row : Vec ℕ Global
  pub at : slice_get next a ≡ Some row
  pub has : Contains row.items b

abbrev pub StaysWithin : Next → Type 0
StaysWithin next = (a b : ℕ) → HasEdge next a b → b < length next

-- 1 where the block of the point has bit i
unfoldable pub bit_at_point : List Block → ℕ → ℕ → ℕ
bit_at_point [] point i = 0
bit_at_point (block ∷ blocks) zero i = bit block i
bit_at_point (block ∷ blocks) (suc point) i = bit_at_point blocks point i

-- a path of one edge or more leads from the start to the point, and no point that lies between clears i
pub data Clear (next : Next) (clears : List Block) (i start : ℕ) : ℕ → Type 0 where
  First : {b : ℕ} → HasEdge next start b → Clear next clears i start b
  On : {a b : ℕ} → Clear next clears i start a → bit_at_point clears a i ≡ 0 → HasEdge next a b → Clear next clears i start b

-- how many bits may still be set
unfoldable pub room : List Block → ℕ
room [] = 0
room (block ∷ blocks) = (512 - size block) + room blocks

-- these points have the bits of a source now, and are in the work if one of them is new
pub record Passes (old new : List Block) (work work' points : List ℕ) (source : ℕ → ℕ) : Type 0 where
  pub same_length : length new ≡ length old
  pub kept : (q i : ℕ) → bit_at_point old q i ≡ 1 → bit_at_point new q i ≡ 1
  pub got : (q i : ℕ) → Contains points q → source i ≡ 1 → bit_at_point new q i ≡ 1
  pub only : (q i : ℕ) → bit_at_point new q i ≡ 1 → (bit_at_point old q i ≡ 1) ⊎ (Contains points q × (source i ≡ 1) × Contains work' q)
  pub work_kept : (q : ℕ) → Contains work q → Contains work' q
  pub work_only : (q : ℕ) → Contains work' q → Contains work q ⊎ Contains points q
  pub paid : room new + length work' ≤ room old + length work

-- Each bit that is set is reached. Those of the starts so far have passed, and so have those of each point that is not
-- in the work.
pub record Sweeps (next : Next) (clears : List Block) (starts : List ℕ) (so_far : ℕ) (reach : List Block) (work : List ℕ) : Type 0 where
  pub same_length : length reach ≡ length next
  pub sound : (q i : ℕ) → bit_at_point reach q i ≡ 1 → (start : ℕ) × (slice_get starts i ≡ Some start) × Clear next clears i start q
  pub begun : (i start q : ℕ) → i < so_far → slice_get starts i ≡ Some start → HasEdge next start q → bit_at_point reach q i ≡ 1
  pub passed : (p q i : ℕ) → HasEdge next p q → bit_at_point reach p i ≡ 1 → bit_at_point clears p i ≡ 0 → (bit_at_point reach q i ≡ 1) ⊎ Contains work p
  pub work_within : (q : ℕ) → Contains work q → q < length next
