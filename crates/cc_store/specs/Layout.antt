-- How the live objects stand in one list of cells.
use Rattle.std.specs.Prelude.{◌≡◌, ℕ, ◌+◌, ◌<◌, List, [], ◌∷◌, Option, Some, None, Result, Ok, Err, Bool, true, false, cond, length, drop, take, nat_lt, ◌==◌, ◌&&◌}
use Rattle.cc_store.specs.declared.value.Value.{Value}
use Rattle.cc_store.specs.declared.value.Pointer.{Pointer}
use Rattle.cc_meaning.specs.declared.end.Undef.{Undef}
use Rattle.cc_meaning.specs.declared.end.Undef.TheVariants.{Ended, PastEnd}
use Rattle.cc_store.specs.Stacks.{if_so}
use Rattle.cc_store.specs.declared.header.Header.{Header}
use Rattle.cc_store.specs.declared.header.Cell.{Cell}
use Rattle.cc_store.specs.Objects.{Object, is_within}

-- the objects with these headers, the last made first, whose cells these are, the first object's first
abbrev pub objects_of : List Header → List Value → List Object
objects_of [] cells = []
objects_of (h ∷ hs) cells = record { declarator = h.declarator; instance = h.instance; is_fixed = h.is_fixed; cells = drop h.start cells } ∷ objects_of hs (take h.start cells)

-- The headers stand one behind the other in this many cells, and their instances fall from below next.
abbrev pub Falls : List Header → ℕ → ℕ → Type 0
Falls [] total next = total ≡ 0
Falls (h ∷ hs) total next = (h.start + h.length ≡ total) × (h.instance < next) × Falls hs h.start h.instance

abbrev pub header_of : ℕ → List Header → Option Header
header_of i [] = None
header_of i (h ∷ hs) = if_so (h.instance == i) h (header_of i hs)

-- the first header with the instance, from the other end
abbrev pub found_in : ℕ → List Header → Option Header
found_in i [] = None
found_in i (h ∷ hs) = if_so (h.instance == i) h (found_in i hs)

-- the cell that the pointer points to
abbrev pub cell_at : Pointer → Option Header → Result Cell Undef
cell_at p None = Err Ended
cell_at p (Some h) = cond (is_within p h.length) (Ok (record { number = h.start + (p.base + p.index); is_fixed = h.is_fixed })) (Err PastEnd)

-- the headers are those of some objects
abbrev pub IsLaidOut : List Header → Type 0
IsLaidOut hs = (total : ℕ) × (next : ℕ) × Falls hs total next
