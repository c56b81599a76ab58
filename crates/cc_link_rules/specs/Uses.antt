-- Names in expressions, and K3 and K10.
use Rattle.std.specs.Prelude.{ℕ, nat_eq, Bool, false, not, ◌&&◌, nat_lt, List, [], ◌∷◌, ◌++◌, Option, Some, None, is_some, slice_get, if◌then◌else◌}
use Rattle.cc_base.specs.declared.place.FileId.{FileId}
use Rattle.cc_arena.specs.Arenas.{node_of}
use Rattle.cc_arena.specs.declared.arena.Placed.{Placed}
use Rattle.cc_arena.specs.declared.node.Node.{Node}
use Rattle.cc_arena.specs.declared.node.Node.TheVariants as kinds
use Rattle.cc_symbols.specs.declared.declared.Declared.{Declared}
use Rattle.cc_symbols.specs.declared.unit.CheckedUnit.{CheckedUnit}
use Rattle.cc_link_rules.specs.declared.fault.Fault.{Fault}
use Rattle.cc_link_rules.specs.declared.standing.Standing.{Standing}
use Rattle.cc_link_rules.specs.Definitions.{found}
use Rattle.cc_link_rules.specs.External.{has_linkage, first_file, no_fault}
use Rattle.cc_link_rules.specs.Faults.{next, next_file, noted}
use Rattle.cc_link_rules.specs.Standings.{standing_at}

abbrev pub declares : Option Declared → Bool
declares (Some d) = has_linkage d.form
declares None = false

abbrev pub is_function_or_object : List Declared → ℕ → Bool
is_function_or_object ds d = declares (slice_get ds d)

-- whether a node calls this part of it, where it is itself called or not
abbrev pub calls : Node → ℕ → Bool → Bool
calls (kinds.Call f args) part own = nat_eq f part
calls (kinds.Paren e) part own = own
calls _ part own = false

abbrev pub called_by : Option Node → ℕ → Bool → Bool
called_by (Some x) part own = calls x part own
called_by None part own = false

abbrev pub flag_or : Option Bool → Bool
flag_or (Some b) = b
flag_or None = false

abbrev pub flag_at : List Bool → ℕ → Bool
flag_at bs n = flag_or (slice_get bs n)

-- the answers for the nodes from number n on, after those that are there; a node's is made of its parent's
abbrev pub called_from : List Placed → List Placed → ℕ → List Bool → List Bool
called_from nodes [] n done = done
called_from nodes (x ∷ xs) n done =
    called_from nodes xs (next n) (done ++ called_by (node_of (slice_get nodes x.parent)) n (flag_at done x.parent) ∷ [])

-- for each node whether it is, parentheses aside, the designator of a call
abbrev pub all_called : List Placed → List Bool
all_called nodes = called_from nodes nodes 0 []

-- K3: it is defined nowhere; K10: it is of the environment, and isn't called
abbrev pub use_of : Standing → Bool → Option ℕ
use_of s is_called =
    if not (is_some s.definition) && not s.is_environment then Some 3
    else (if s.is_environment && not is_called then Some 10 else None)

abbrev pub named_at : List (Option ℕ) → ℕ → Option ℕ
named_at names n = found (slice_get names n)

abbrev pub use_declared : List Declared → List Standing → ℕ → Bool → Option ℕ
use_declared ds ss d is_called = if is_function_or_object ds d then use_of (standing_at ss d) is_called else None

abbrev pub use_named_as : Option ℕ → List Declared → List Standing → Bool → Option ℕ
use_named_as (Some d) ds ss is_called = use_declared ds ss d is_called
use_named_as None ds ss is_called = None

abbrev pub use_named : List Declared → List (Option ℕ) → List Standing → ℕ → Bool → Option ℕ
use_named ds names ss n is_called = use_named_as (named_at names n) ds ss is_called

abbrev pub use_at : List Declared → List (Option ℕ) → List Standing → ℕ → Bool → Node → Option ℕ
use_at ds names ss n is_called kinds.Name = use_named ds names ss n is_called
use_at ds names ss n is_called _ = None

abbrev pub file_from : FileId → List CheckedUnit → ℕ → FileId
file_from f [] n = first_file
file_from f (u ∷ us) n = if not (nat_lt n u.start) && nat_lt n u.«end» then f else file_from (next_file f) us n

abbrev pub file_with : List CheckedUnit → ℕ → FileId
file_with us n = file_from first_file us n

abbrev pub noted_at : Option Fault → Option ℕ → List CheckedUnit → ℕ → Placed → Option Fault
noted_at least (Some r) us n x = noted least (Some r) (file_with us n) x.spot
noted_at least None us n x = least

abbrev pub use_from : List Declared → List (Option ℕ) → List Standing → List Bool → List CheckedUnit → ℕ → List Placed → Option Fault → Option Fault
use_from ds names ss called us n [] least = least
use_from ds names ss called us n (x ∷ xs) least =
    use_from ds names ss called us (next n) xs (noted_at least (use_at ds names ss n (flag_at called n) x.node) us n x)

abbrev pub use_all : List Declared → List (Option ℕ) → List Standing → List Bool → List CheckedUnit → List Placed → Option Fault
use_all ds names ss called us xs = use_from ds names ss called us 0 xs no_fault
