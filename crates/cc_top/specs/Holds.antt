-- What the files hold.
use Rattle.std.specs.Prelude.{◌≡◌, ◌≤◌, ◌++◌, ℕ, List, [], ◌∷◌, length, Some}
use Rattle.std.specs.FinMap.{get}
use Rattle.cc_io.specs.Shelf.{Files}
use Rattle.cc_first.specs.Limit.{limit}

-- the bytes are not too many for a file
abbrev pub IsShort : List ℕ → Type 0
IsShort bytes = length bytes ≤ limit

-- the files hold bytes under the name, and not too many
abbrev pub Holds : Files → List ℕ → List ℕ → Type 0
Holds files name bytes = (get files name ≡ Some bytes) × (length bytes ≤ limit)

-- the files hold these contents under these names
abbrev pub AllHold : Files → List (List ℕ) → List (List ℕ) → Type 0
AllHold files [] [] = Unit {0}
AllHold files (name ∷ names) (bytes ∷ contents) = Holds files name bytes × AllHold files names contents
AllHold files _ _ = ⊥

-- a list grew by the contents of these files
abbrev pub AddsHeld : Files → (names old new : List (List ℕ)) → Type 0
AddsHeld files names old new = (contents : List (List ℕ)) × (new ≡ old ++ contents) × AllHold files names contents
