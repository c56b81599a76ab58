-- Rows by number.
use Rattle.std.specs.Prelude.{ℕ, ◌≡◌, ◌↔◌, List, Option, Some, Contains, slice_get}
use Rattle.cc_flows.specs.Masks.{row_of}
use Rattle.cc_lanes.specs.Rows.{Pair}
use Rattle.cc_listed.specs.declared.calls.Argument.{Argument}
use Rattle.cc_listed.specs.declared.calls.Formal.{Formal}
use Rattle.cc_listed.specs.declared.calls.Returned.{Returned}

abbrev pub pair : ℕ → ℕ → Pair
pair r x = (r, x)

-- each row has the items that the pairs have with its number
abbrev pub AreGrouped : List (List ℕ) → List Pair → Type 0
AreGrouped rows pairs = (r x : ℕ) → Contains (row_of rows r) x ↔ Contains pairs (pair r x)

-- each row has the numbers of the places where its number stands
abbrev pub AreIndexed : List (Option ℕ) → List (List ℕ) → Type 0
AreIndexed keys rows = (r k : ℕ) → Contains (row_of rows r) k ↔ (slice_get keys k ≡ Some (Some r))

-- each row has the numbers of those whose key its number is
abbrev pub AreBy : {X : Type 0} → (X → ℕ) → List X → List (List ℕ) → Type 0
AreBy {X} key xs rows = (r k : ℕ) → Contains (row_of rows r) k ↔ ((x : X) × (slice_get xs k ≡ Some x) × (key x ≡ r))

abbrev pub site_of : Argument → ℕ
site_of a = a.site

abbrev pub site_key : Argument → Option ℕ
site_key a = Some a.site

abbrev pub taker_of : Formal → ℕ
taker_of f = f.callee

abbrev pub taker_key : Formal → Option ℕ
taker_key f = Some f.callee

abbrev pub giver_of : Returned → ℕ
giver_of r = r.callee

abbrev pub giver_key : Returned → Option ℕ
giver_key r = Some r.callee
