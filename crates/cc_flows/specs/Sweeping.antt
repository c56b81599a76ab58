-- Paths that no inner point clears, and what a sweep keeps.
use Rattle.std.specs.Prelude.{◌≡◌, ℕ, zero, suc, ◌+◌, ◌-◌, ◌<◌, ◌≤◌, ◌⊎◌, Bool, true, false, List, [], ◌∷◌, length, Some, slice_get, Contains}
use Rattle.cc_blocks.specs.declared.block.Block.{Block}
use Rattle.cc_blocks.specs.Bits.{bit, size}

-- for each point the points that come next
abbrev pub Next : Type 0
Next = List (List ℕ)

-- b comes next after a
pub record HasEdge (next : Next) (a b : ℕ) : Type 0 where
  pub row : List ℕ
  pub at : slice_get next a ≡ Some row
  pub has : Contains row b

-- what comes next is a point itself
abbrev pub StaysWithin : Next → Type 0
StaysWithin next = (a b : ℕ) → HasEdge next a b → b < length next

-- 1 where the set of the point has number i
unfoldable pub bit_at_point : List Block → ℕ → ℕ → ℕ
bit_at_point [] point i = 0
bit_at_point (block ∷ blocks) zero i = bit block i
bit_at_point (block ∷ blocks) (suc point) i = bit_at_point blocks point i

-- a path of one step or more leads from the start to the point, and no point that lies between clears i
pub data Clear (next : Next) (clears : List Block) (i start : ℕ) : ℕ → Type 0 where
  First : {b : ℕ} → HasEdge next start b → Clear next clears i start b
  On : {a b : ℕ} → Clear next clears i start a → bit_at_point clears a i ≡ 0 → HasEdge next a b → Clear next clears i start b

-- how many numbers may still be added
unfoldable pub room : List Block → ℕ
room [] = 0
room (block ∷ blocks) = (512 - size block) + room blocks

-- the point grew and was not visited since
abbrev pub IsDirty : List Bool → ℕ → Type 0
IsDirty dirty p = slice_get dirty p ≡ Some true

-- how many points grew and were not visited since
abbrev pub dirty_count : List Bool → ℕ
dirty_count [] = 0
dirty_count (true ∷ dirty) = suc (dirty_count dirty)
dirty_count (false ∷ dirty) = dirty_count dirty

-- these points have the numbers of a source now, and are to be visited where one of them is new
pub record Passes (old new : List Block) (dirty dirty' : List Bool) (points : List ℕ) (source : ℕ → ℕ) : Type 0 where
  pub same_length : length new ≡ length old
  pub same_dirty : length dirty' ≡ length dirty
  pub kept : (q i : ℕ) → bit_at_point old q i ≡ 1 → bit_at_point new q i ≡ 1
  pub got : (q i : ℕ) → Contains points q → source i ≡ 1 → bit_at_point new q i ≡ 1
  pub only : (q i : ℕ) → bit_at_point new q i ≡ 1 → (bit_at_point old q i ≡ 1) ⊎ (Contains points q × (source i ≡ 1) × IsDirty dirty' q)
  pub dirty_kept : (q : ℕ) → IsDirty dirty q → IsDirty dirty' q
  pub paid : room new + dirty_count dirty' ≤ room old + dirty_count dirty

-- Each number that is set is reached. Those of the starts so far have been handed on, and so have those of each point that
-- is not to be visited.
pub record Sweeps (next : Next) (clears : List Block) (starts : List ℕ) (so_far : ℕ) (reach : List Block) (dirty : List Bool) : Type 0 where
  pub same_length : length reach ≡ length next
  pub same_dirty : length dirty ≡ length next
  pub sound : (q i : ℕ) → bit_at_point reach q i ≡ 1 → (start : ℕ) × (slice_get starts i ≡ Some start) × Clear next clears i start q
  pub begun : (i start q : ℕ) → i < so_far → slice_get starts i ≡ Some start → HasEdge next start q → bit_at_point reach q i ≡ 1
  pub passed : (p q i : ℕ) → HasEdge next p q → bit_at_point reach p i ≡ 1 → bit_at_point clears p i ≡ 0 → (bit_at_point reach q i ≡ 1) ⊎ IsDirty dirty p

-- the tables have a row for each point
pub record Fits (next : Next) (clears reach : List Block) (dirty : List Bool) : Type 0 where
  pub stays : StaysWithin next
  pub same_clears : length clears ≡ length next
  pub same_length : length reach ≡ length next
  pub same_dirty : length dirty ≡ length next

-- what visits of points keep
pub record Visits (next : Next) (clears reach reach' : List Block) (dirty dirty' : List Bool) : Type 0 where
  pub same_length : length reach' ≡ length reach
  pub same_dirty : length dirty' ≡ length dirty
  pub kept : (starts : List ℕ) (k : ℕ) → Sweeps next clears starts k reach dirty → Sweeps next clears starts k reach' dirty'
  pub paid : room reach' + dirty_count dirty' ≤ room reach + dirty_count dirty

-- so many of the starts were handed on
pub record Begins (next : Next) (starts : List ℕ) (k : ℕ) (reach reach' : List Block) (dirty dirty' : List Bool) : Type 0 where
  pub same_length : length reach' ≡ length reach
  pub same_dirty : length dirty' ≡ length dirty
  pub begun : (clears : List Block) → Sweeps next clears starts 0 reach dirty → Sweeps next clears starts k reach' dirty'
