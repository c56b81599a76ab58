-- The structs of a file, by number.
use Rattle.std.specs.Prelude.{ℕ, ◌+◌, Bool, false, not, ◌&&◌, ◌||◌, nat_eq, if◌then◌else◌, List, [], ◌∷◌, ◌++◌, length, map, Option, Some, None, bytes_eq, slice_set}
use Rattle.cc_tree.specs.declared.ids.StructId.{StructId}
use Rattle.cc_types.specs.declared.measure.Measure.{Measure}
use Rattle.cc_types.specs.declared.structs.StructEntry.{StructEntry}
use Rattle.cc_types.specs.declared.structs.Member.{Member}
use Rattle.cc_types.specs.declared.shape.Shape.{Shape}
use Rattle.cc_types.specs.declared.shape.TypeId.{TypeId}
use Rattle.cc_types.specs.declared.expr_type.ExprType.{ExprType}
use Rattle.cc_types.specs.CTypes.{CTypeTree, struct_by}
use Rattle.cc_types.specs.Shapes.{types_of}
use Rattle.cc_types.specs.ExprTypes.{expr_type}
use Rattle.cc_types.specs.Questions.{fits_scalar}
use Rattle.cc_types.specs.Asked as asked
use Rattle.cc_types.specs.declared.depth.Depth.{Depth}
use Rattle.cc_types.specs.declared.depth.DepthItem.{DepthItem}
use Rattle.cc_types.specs.Depths.{flat, members_depth}
use Rattle.cc_types.specs.Measures.{nothing, declared_entry, entry_of, members_measured}

abbrev pub struct_number : ℕ → StructId
struct_number n = record { 0 = n }

-- the structs with one more, which has no members as yet, and its number
abbrev pub added : List StructEntry → Bool → ℕ → List StructEntry × StructId
added es is_tagged token = (es ++ declared_entry is_tagged token ∷ [], struct_number (length es))

-- At the beginning of another file no struct has its members. One without a tag keeps its depth, since types may be made of
-- it that have their numbers already.
abbrev pub depth_renewed : Bool → Depth → Depth
depth_renewed is_tagged d = if is_tagged then flat 1 else d

abbrev pub entry_renewed : StructEntry → StructEntry
entry_renewed e = record { is_tagged = e.is_tagged; token = e.token; members = []; measure = nothing; depth = depth_renewed e.is_tagged e.depth }

abbrev pub renewed : List StructEntry → List StructEntry
renewed es = map entry_renewed es

abbrev pub is_complete : List StructEntry → StructId → Bool
is_complete es id = (entry_of es id).measure.is_complete

-- the entry with its members
abbrev pub with_members : StructEntry → List Member → Measure → Depth → StructEntry
with_members e ms m d = record { is_tagged = e.is_tagged; token = e.token; members = ms; measure = m; depth = d }

abbrev pub completed_by : List StructEntry → StructId → List Member → Measure → Depth → List StructEntry
completed_by es id ms m d = if not (is_complete es id) && m.is_complete then slice_set es id.0 (with_members (entry_of es id) ms m d) else es

-- The structs once this one has its members (C17 6.7.2.1). They stay as they are where it is complete already, or where the
-- type of a member isn't complete.
abbrev pub completed : List Shape → List StructEntry → List DepthItem → StructId → List Member → List StructEntry
completed ss es ds id ms = completed_by es id ms (members_measured (types_of ss) es ms) (members_depth ss es ds ms)

-- the first member of this name: its place among the members from i on, and its type
abbrev pub member_from : ℕ → List Member → List ℕ → Option (ℕ × TypeId)
member_from i [] x = None
member_from i (m ∷ ms) x = if bytes_eq m.name x then Some (i, m.kind) else member_from (i + 1) ms x

abbrev pub member_named : List StructEntry → StructId → List ℕ → Option (ℕ × TypeId)
member_named es id x = member_from 0 (entry_of es id).members x

-- both are the same complete struct type, const aside
abbrev pub are_one_struct : List StructEntry → CTypeTree → CTypeTree → Bool
are_one_struct es (struct_by k id) (struct_by j other) = nat_eq id.0 other.0 && is_complete es id
are_one_struct es s t = false

-- A value of the first type, which may be a null constant, fits the second: both are integer types; or pointers to the same
-- type, where the target's pointee may have an added const; or the target is a pointer and the value a null constant; or
-- both are the same complete struct type, const aside.
abbrev pub fits : List StructEntry → CTypeTree → Bool → CTypeTree → Bool
fits es s is_null t = fits_scalar s is_null t || are_one_struct es s t

-- the same, as a table of types answers it
abbrev pub fits_in : List Shape → List StructEntry → ExprType → Bool → ExprType → Bool
fits_in ss es s is_null t = asked.fits_scalar ss s is_null t || are_one_struct es (expr_type (types_of ss) s) (expr_type (types_of ss) t)
