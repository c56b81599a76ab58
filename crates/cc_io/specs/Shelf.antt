-- What a shelf holds, and what a read of it says.
use Rattle.std.specs.Prelude.{◌≡◌, ◌<◌, ◌≤◌, ℕ, List, length, Some, None}
use Rattle.std.specs.Ordering.{nat_cmp}
use Rattle.std.specs.Cmp.Lexicographic.{slice_cmp}
use Rattle.std.specs.FinMap.{FinMap, get}
use Rattle.cc_io.specs.declared.shelf.Found.{Found}
use Rattle.cc_io.specs.declared.shelf.Found.TheVariants.{File, Absent, Long}

-- the bytes under each name
abbrev pub Files : Type 0
Files = FinMap (slice_cmp nat_cmp) (List ℕ)

-- a file has at most cap bytes
abbrev pub IsWithin : ℕ → Found → Type 0
IsWithin cap (File bytes) = length bytes ≤ cap
IsWithin cap Absent = Unit {0}
IsWithin cap Long = Unit {0}

-- what a read of the name with this cap found is what the files hold
abbrev pub IsFoundIn : Files → List ℕ → ℕ → Found → Type 0
IsFoundIn files name cap (File bytes) = get files name ≡ Some bytes
IsFoundIn files name cap Absent = get files name ≡ None
IsFoundIn files name cap Long = (bytes : List ℕ) × (get files name ≡ Some bytes) × (cap < length bytes)
