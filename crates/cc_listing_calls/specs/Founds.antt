-- What is found for arguments, formals and returns.
use Rattle.std.specs.Prelude.{ℕ, ◌≡◌, ◌↔◌, Bool, List, Some, Contains, slice_get}
use Rattle.cc_blocks.specs.declared.block.Block.{Block}
use Rattle.cc_flows.specs.declared.flow.Found.{Found}
use Rattle.cc_flows.specs.Masks.{row_of}
use Rattle.cc_lanes.specs.Rows.{Pair}
use Rattle.cc_listed.specs.declared.table.Access.{Access}
use Rattle.cc_listed.specs.declared.table.Tables.{Tables}
use Rattle.cc_listed.specs.declared.calls.Formal.{Formal}
use Rattle.cc_listed.specs.Stretches.{Steps, Accesses}
use Rattle.cc_listed.specs.CallsListed.{ReadsFirst, ReachesRead}
use Rattle.cc_listing_shared.specs.Living as living

abbrev pub is_reached : ℕ → List Block → Access → Bool
is_reached root reach a = living.is_reached root reach a.point

-- the reader reads the formal of this number first
abbrev pub IsFirstReader : Steps → Tables → Accesses → List Formal → Found → Type 0
IsFirstReader G T A formals f = (formal : Formal) × (slice_get formals f.definition ≡ Some formal) × ((r : ReadsFirst G T A formal f.reader) × (r.slot.object ≡ f.object))

-- the definition reaches the named read of this number
abbrev pub IsSource : Steps → Tables → Accesses → List Access → Found → Type 0
IsSource G T A named f = (read : Access) × (slice_get named f.reader ≡ Some read) × ((r : ReachesRead G T A read f.definition) × (r.slot.object ≡ f.object))

abbrev pub taken_pair : Found → Pair
taken_pair f = (f.definition, f.reader)

abbrev pub source_pair : Found → Pair
source_pair f = (f.reader, f.definition)

-- for each formal its first readers
abbrev pub AreTaken : Steps → Tables → Accesses → List Formal → List (List ℕ) → Type 0
AreTaken G T A formals rows = (j u : ℕ) → Contains (row_of rows j) u ↔ ((formal : Formal) × (slice_get formals j ≡ Some formal) × ReadsFirst G T A formal u)

-- for each named read the definitions that reach it
abbrev pub AreSources : Steps → Tables → Accesses → List Access → List (List ℕ) → Type 0
AreSources G T A named rows = (n d : ℕ) → Contains (row_of rows n) d ↔ ((read : Access) × (slice_get named n ≡ Some read) × ReachesRead G T A read d)
