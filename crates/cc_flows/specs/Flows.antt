-- Which definitions reach which reads.
use Rattle.std.specs.Prelude.{ℕ, ◌≡◌, ◌↔◌, List, Some, slice_get, Contains}
use Rattle.std.specs.declared.cmp.Ordering.{Ordering}
use Rattle.std.specs.Ordering.{nat_cmp, ordering_then}
use Rattle.cc_blocks.specs.declared.block.Block.{Block}
use Rattle.cc_rows.specs.Gains.{Each}
use Rattle.cc_blocks.specs.Bits.{bit}
use Rattle.cc_flows.specs.Sweeping.{Next, HasEdge, bit_at_point}
use Rattle.cc_flows.specs.declared.mask.Touch.{Touch}
use Rattle.cc_flows.specs.declared.flow.Found.{Found}
use Rattle.cc_flows.specs.Masks.{row_of, IsWiped}

-- a clear stretch leads from the start to the point: a path of one step or more, no inner point of which wipes the slot
pub data ClearStretch (next : Next) (wipes : List (List ℕ)) (slot start : ℕ) : ℕ → Type 0 where
  First : {b : ℕ} → HasEdge next start b → ClearStretch next wipes slot start b
  On : {a b : ℕ} → ClearStretch next wipes slot start a → (Contains (row_of wipes a) slot → ⊥) → HasEdge next a b → ClearStretch next wipes slot start b

-- a path of one step or more, no inner point of which wipes a slot whose mask has the number
pub data MaskStretch (next : Next) (wipes : List (List ℕ)) (masks : List Block) (i start : ℕ) : ℕ → Type 0 where
  FirstStep : {b : ℕ} → HasEdge next start b → MaskStretch next wipes masks i start b
  OnStep : {a b : ℕ} → MaskStretch next wipes masks i start a → (IsWiped masks (row_of wipes a) i → ⊥) → HasEdge next a b → MaskStretch next wipes masks i start b

-- what is found where a definition reaches a reader
abbrev pub found_of : Touch → ℕ → Found
found_of d reader = record { definition = d.node; reader = reader; object = d.object }

-- by the definition, then by the reader, then by what it is a definition of
abbrev pub found_cmp : Found → Found → Ordering
found_cmp a b = ordering_then (nat_cmp a.definition b.definition) (ordering_then (nat_cmp a.reader b.reader) (nat_cmp a.object b.object))

-- a clear stretch leads from one of the definitions to one of the reads of its slot
pub record Reaches (next : Next) (wipes : List (List ℕ)) (reads : List Touch) (definitions : List Touch) (found : Found) : Type 0 where
  pub definition : Touch
  pub read : Touch
  pub defines : Contains definitions definition
  pub is_read : Contains reads read
  pub same_slot : read.slot ≡ definition.slot
  pub stretch : ClearStretch next wipes definition.slot definition.point read.point
  pub is : found_of definition read.node ≡ found

-- a number of the set stands for a definition that this reader makes into what is found
abbrev pub IsOne : List Touch → Block → ℕ → ℕ → Found → Type 0
IsOne definitions bits reader i f = (bit bits i ≡ 1) × (d : Touch) × (slice_get definitions i ≡ Some d) × (found_of d reader ≡ f)

abbrev pub IsAny : List Touch → Block → ℕ → Found → Type 0
IsAny definitions bits reader f = (i : ℕ) × IsOne definitions bits reader i f

-- a number stands for a definition of the read's slot, and has come to the read's point
abbrev pub IsRead : List Touch → List Block → List Block → Touch → Found → Type 0
IsRead definitions reach masks r f = (i : ℕ) × (bit_at_point reach r.point i ≡ 1) × (bit_at_point masks r.slot i ≡ 1) × (d : Touch) × (slice_get definitions i ≡ Some d) × (found_of d r.node ≡ f)

abbrev pub IsGathered : List Touch → List Touch → List Block → List Block → Found → Type 0
IsGathered definitions reads reach masks = Each reads (IsRead definitions reach masks)

-- number i of a point's set stands for a definition that reaches the point, where no inner point wipes one of the slots whose mask has i
abbrev pub AreReached : Next → List (List ℕ) → List Block → List Touch → List Block → Type 0
AreReached next wipes masks definitions reach = (point i : ℕ) → (bit_at_point reach point i ≡ 1) ↔ ((d : Touch) × (slice_get definitions i ≡ Some d) × MaskStretch next wipes masks i d.point point)
