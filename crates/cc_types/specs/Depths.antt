-- How deep types are.
use Rattle.std.specs.Prelude.{ℕ, ◌+◌, nat_eq, Bool, false, ◌||◌, if◌then◌else◌, List, [], ◌∷◌, ◌++◌, length, drop, slice_index_or}
use Rattle.cc_tree.specs.declared.ids.StructId.{StructId}
use Rattle.cc_types.specs.declared.depth.Depth.{Depth}
use Rattle.cc_types.specs.declared.depth.DepthItem.{DepthItem}
use Rattle.cc_types.specs.declared.structs.StructEntry.{StructEntry}
use Rattle.cc_types.specs.declared.structs.Member.{Member}
use Rattle.cc_types.specs.declared.shape.Shape.{Shape}
use Rattle.cc_types.specs.declared.shape.Shape.TheVariants as s
use Rattle.cc_types.specs.declared.shape.TypeId.{TypeId}
use Rattle.cc_types.specs.CTypes.{CTypeTree, void, integer_of, pointer_to, array_of, returning, taking, struct_by}
use Rattle.cc_types.specs.Shapes.{type_at}
use Rattle.cc_types.specs.Interning.{shape_of}
use Rattle.cc_types.specs.Measures.{capped, larger, entry_of}

abbrev pub deeper : ℕ → ℕ
deeper n = capped (n + 1)

-- as deep everywhere
abbrev pub flat : ℕ → Depth
flat n = record { whole = n; inside = n }

-- one more
abbrev pub sunk : Depth → Depth
sunk d = record { whole = deeper d.whole; inside = deeper d.inside }

-- the deeper of two
abbrev pub deepest : Depth → Depth → Depth
deepest d e = record { whole = larger d.whole e.whole; inside = larger d.inside e.inside }

-- A struct with a tag that is reached through a pointer or a function type counts 1 there and isn't entered.
abbrev pub struct_depth : StructEntry → Depth
struct_depth e = record { whole = e.depth.whole; inside = if e.is_tagged then 1 else e.depth.inside }

-- The depth of a type, where these are the structs: void and an integer have 1; a pointer, an array and a function have 1
-- more than the deepest type that they are made of, and so has a struct than its members. What stands inside a pointer or a
-- function type is reached through it. Of a function only the types of its parameters and of its result are parts, not the
-- types that have some of its parameters less.
abbrev pub depth_of : List StructEntry → CTypeTree → Depth
depth_of es (void k) = flat 1
depth_of es (integer_of k kind) = flat 1
depth_of es (pointer_to k t) = flat (deeper (depth_of es t).inside)
depth_of es (array_of k t n) = sunk (depth_of es t)
depth_of es (returning t) = flat (deeper (depth_of es t).inside)
depth_of es (taking t f) = flat (larger (deeper (depth_of es t).inside) (depth_of es f).inside)
depth_of es (struct_by k id) = struct_depth (entry_of es id)

-- ---- As a list of depths by number answers it

-- a type of which nothing is listed: void
abbrev pub no_item : DepthItem
no_item = record { inside = 1; levels = 0; base = s.Void false }

abbrev pub item_at : List DepthItem → TypeId → DepthItem
item_at ds id = slice_index_or ds id.0 no_item

abbrev pub inside_at : List DepthItem → TypeId → ℕ
inside_at ds id = (item_at ds id).inside

-- how deep a shape is where it is reached through a pointer or a function type
abbrev pub inside_in : List StructEntry → List DepthItem → Shape → ℕ
inside_in es ds (s.Pointer k t) = deeper (inside_at ds t)
inside_in es ds (s.Array k t n) = deeper (inside_at ds t)
inside_in es ds (s.Function t) = deeper (inside_at ds t)
inside_in es ds (s.Takes t f) = larger (deeper (inside_at ds t)) (inside_at ds f)
inside_in es ds (s.Struct k id) = (struct_depth (entry_of es id)).inside
inside_in es ds a = 1

-- how many arrays stand in one another at the top, and what stands in the innermost
abbrev pub levels_in : List DepthItem → Shape → ℕ
levels_in ds (s.Array k t n) = deeper (item_at ds t).levels
levels_in ds a = 0

abbrev pub base_in : List DepthItem → Shape → Shape
base_in ds (s.Array k t n) = (item_at ds t).base
base_in ds a = a

abbrev pub item_in : List StructEntry → List DepthItem → Shape → DepthItem
item_in es ds a = record { inside = inside_in es ds a; levels = levels_in ds a; base = base_in ds a }

-- the depth of what is no array
abbrev pub base_depth : List StructEntry → List DepthItem → Shape → ℕ
base_depth es ds (s.Struct k id) = (struct_depth (entry_of es id)).whole
base_depth es ds a = inside_in es ds a

abbrev pub depth_in : List StructEntry → List DepthItem → Shape → Depth
depth_in es ds a = record { whole = capped (levels_in ds a + base_depth es ds (base_in ds a)); inside = inside_in es ds a }

-- the list with what is listed of these shapes, one after another
abbrev pub listed : List StructEntry → List DepthItem → List Shape → List DepthItem
listed es ds [] = ds
listed es ds (a ∷ rest) = listed es (ds ++ item_in es ds a ∷ []) rest

-- the list for the whole table
abbrev pub caught_up : List Shape → List StructEntry → List DepthItem → List DepthItem
caught_up ss es ds = listed es ds (drop (length ds) ss)

-- the members one after another
abbrev pub depth_from : List Shape → List StructEntry → List DepthItem → Depth → List Member → Depth
depth_from ss es ds d [] = d
depth_from ss es ds d (m ∷ ms) = depth_from ss es ds (deepest d (depth_in es ds (shape_of ss m.kind))) ms

-- a struct has 1 more than its deepest member
abbrev pub members_depth : List Shape → List StructEntry → List DepthItem → List Member → Depth
members_depth ss es ds ms = sunk (depth_from ss es ds (flat 0) ms)

-- ---- What structs keep

-- the members one after another, by their types
abbrev pub deepest_from : List CTypeTree → List StructEntry → Depth → List Member → Depth
deepest_from ts es d [] = d
deepest_from ts es d (m ∷ ms) = deepest_from ts es (deepest d (depth_of es (type_at ts m.kind))) ms

abbrev pub struct_deep : List CTypeTree → List StructEntry → List Member → Depth
struct_deep ts es ms = sunk (deepest_from ts es (flat 0) ms)

-- whether a struct stands anywhere in a type
abbrev pub mentions : StructId → CTypeTree → Bool
mentions id (pointer_to k t) = mentions id t
mentions id (array_of k t n) = mentions id t
mentions id (returning t) = mentions id t
mentions id (taking t f) = mentions id t || mentions id f
mentions id (struct_by k other) = nat_eq other.0 id.0
mentions id t = false
