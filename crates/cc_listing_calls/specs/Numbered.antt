-- Accesses and items that are known by their numbers.
use Rattle.std.specs.Prelude.{ℕ, ◌≡◌, ◌↔◌, ◌++◌, List, [], ◌∷◌, Option, Some, None, Contains, slice_get}
use Rattle.cc_lanes.specs.Rows.{Pair}
use Rattle.cc_listed.specs.declared.table.Access.{Access}
use Rattle.cc_listed.specs.declared.calls.Formal.{Formal}

-- each has its number among the accesses in the place of its node
abbrev pub AreNumbered : List Access → List Access → Type 0
AreNumbered accesses out = (x : Access) → Contains out x ↔ ((a : Access) × (slice_get accesses x.occurrence ≡ Some a) × (a.slot ≡ x.slot) × (a.point ≡ x.point))

-- the entry of a function as an access to its formal
abbrev pub entry_of : Formal → Access
entry_of f = record { point = f.entry; slot = f.slot; occurrence = f.callee }

-- an item with its number, where there is one
abbrev pub put_item : ℕ → Option ℕ → List Pair → List Pair
put_item n (Some x) out = out ++ (x, n) ∷ []
put_item n None out = out

-- the items that are there, each with its number
abbrev pub AreItems : List (Option ℕ) → List Pair → Type 0
AreItems items out = (p : Pair) → Contains out p ↔ (slice_get items p.1 ≡ Some (Some p.0))
