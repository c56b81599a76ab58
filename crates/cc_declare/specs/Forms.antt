-- The types that the forms of a declarator make, and the rules on them.
use Rattle.std.specs.Prelude.{ℕ, ℤ, pos, nat_lt, Bool, true, false, not, ◌||◌, ◌&&◌, Option, Some, None, List, [], ◌∷◌, reverse, if◌then◌else◌}
use Rattle.cc_tree_notes.specs.declared.note.Counted.{Counted}
use Rattle.cc_types.specs.Depths.{caught_up, depth_in}
use Rattle.cc_types.specs.Interning as interning
use Rattle.cc_types.specs.Interning.{shape_of}
use Rattle.cc_types.specs.declared.depth.DepthItem.{DepthItem}
use Rattle.cc_types.specs.declared.shape.Shape.{Shape}
use Rattle.cc_types.specs.declared.shape.Shape.TheVariants as h
use Rattle.cc_types.specs.declared.shape.TypeId.{TypeId}
use Rattle.cc_declare.specs.declared.checker.Checker.{Checker}
use Rattle.cc_declare.specs.declared.enumerators.ConstantValue.{ConstantValue}
use Rattle.cc_declare.specs.declared.enumerators.ConstantValue.TheVariants as v
use Rattle.cc_declare.specs.declared.shaped.Formed.{Formed}
use Rattle.cc_declare.specs.declared.shaped.Shaped.{Shaped}
use Rattle.cc_declare.specs.Rules as rule
use Rattle.cc_declare.specs.Shapes.{is_void, is_no_result, is_no_object, lacks_length, has_too_many_cells, is_void_type, is_struct_type, is_void_pointer}
use Rattle.cc_declare.specs.Shaping.{with_kind, unjudged, excused_if, faulted_if, judged_fault}
use Rattle.cc_declare.specs.State.{with_symbols, with_types, with_kind_at, settled}

-- a length that is wrong, which is an offence, is kept as the nearest that is 0 or 1,048,577
abbrev pub kept_length : ℤ → ℕ
kept_length (pos n) = if nat_lt 1048576 n then 1048577 else n
kept_length n = 0

abbrev pub length_of : ConstantValue → Option ℕ
length_of (v.Is n) = Some (kept_length n)
length_of c = None

abbrev pub is_below_one : ℤ → Bool
is_below_one (pos n) = nat_lt n 1
is_below_one n = true

-- a length is missing where it has to be there, or is below 1
abbrev pub is_wrong_length : ConstantValue → Bool → Bool
is_wrong_length v.Missing may_lack = not may_lack
is_wrong_length (v.Is n) may_lack = is_below_one n
is_wrong_length c may_lack = false

abbrev pub made_as : Checker → Shaped → List Shape × TypeId → Checker × Shaped
made_as s d p = (with_types s p.0, with_kind d (Some p.1))

abbrev pub pointer_at : Checker → Counted → Bool → Shaped → Option TypeId → Checker × Shaped
pointer_at s n k d None = (s, d)
pointer_at s n k d (Some t) =
    made_as s (faulted_if d (is_void (shape_of s.symbols.types t)) n rule.pointer_to_void) (interning.interned s.symbols.types (h.Pointer k t))

-- a pointer to this
abbrev pub pointer_made : Checker → Counted → Bool → Shaped → Checker × Shaped
pointer_made s n k d = pointer_at s n k d d.kind

-- the same, where these are to be the elements of an array
abbrev pub of_elements : Checker → Counted → Shape → Shaped → Shaped
of_elements s n a d =
    faulted_if (faulted_if d (is_no_object s a) n rule.object_type) (lacks_length a || has_too_many_cells s a) n rule.array_size

abbrev pub array_as : Checker → Counted → ConstantValue → Bool → Shaped → TypeId → Checker × Shaped
array_as s n c may_lack d t =
    (s, with_kind (faulted_if d (is_wrong_length c may_lack || has_too_many_cells s (shape_of s.symbols.types t)) n rule.array_size) (Some t))

abbrev pub array_in : Checker → Counted → ConstantValue → Bool → Shaped → List Shape × TypeId → Checker × Shaped
array_in s n c may_lack d p = array_as (with_types s p.0) n c may_lack d p.1

abbrev pub array_of_made : Checker → Counted → ConstantValue → Bool → Shaped → TypeId → Checker × Shaped
array_of_made s n c may_lack d t =
    array_in s n c may_lack (of_elements s n (shape_of s.symbols.types t) d) (interning.array_made s.symbols.types t (length_of c))

abbrev pub array_at : Checker → Counted → ConstantValue → Bool → Shaped → Option TypeId → Checker × Shaped
array_at s n c may_lack d (Some t) = array_of_made s n c may_lack d t
array_at s n c may_lack d None = (s, d)

-- the same of this, if it has a type
abbrev pub array_with : Checker → Counted → ConstantValue → Bool → Shaped → Checker × Shaped
array_with s n c may_lack d = array_at s n c may_lack d d.kind

abbrev pub array_without_at : Checker → Counted → Shaped → Option TypeId → Shaped
array_without_at s n d (Some t) = with_kind (of_elements s n (shape_of s.symbols.types t) d) None
array_without_at s n d None = d

-- an array of this whose length is no constant: it has no type
abbrev pub array_without : Checker → Counted → Shaped → Shaped
array_without s n d = array_without_at s n d d.kind

-- An array of this. Where its length has no type, nothing is judged; where it is no constant, there is no type.
abbrev pub array_made : Checker → Counted → ConstantValue → Bool → Shaped → Checker × Shaped
array_made s n v.Untyped may_lack d = (s, unjudged d)
array_made s n v.NoConstant may_lack d = (s, array_without s n d)
array_made s n v.Missing may_lack d = array_with s n v.Missing may_lack d
array_made s n (v.Is m) may_lack d = array_with s n (v.Is m) may_lack d

abbrev pub typed_by : Checker → List Shape × TypeId → Checker × TypeId
typed_by s p = (with_types s p.0, p.1)

abbrev pub taking_one : Checker → Option TypeId → TypeId → Checker × TypeId
taking_one s None f = (s, f)
taking_one s (Some t) f = typed_by s (interning.taking_made s.symbols.types t f)

-- a function with these parameters more, the last first
abbrev pub taking_all : List (Option TypeId) → TypeId → Checker → Checker × TypeId
taking_all [] f s = (s, f)
taking_all (t ∷ ts) f s = let p = taking_one s t f in taking_all ts p.1 p.0

abbrev pub is_missing : Option TypeId → Bool
is_missing None = true
is_missing (Some t) = false

abbrev pub is_untyped : List (Option TypeId) → Bool
is_untyped [] = false
is_untyped (t ∷ ts) = is_missing t || is_untyped ts

abbrev pub has_struct : Checker → List (Option TypeId) → Bool
has_struct s [] = false
has_struct s (t ∷ ts) = is_struct_type s t || has_struct s ts

abbrev pub is_void_alone : Checker → List (Option TypeId) → Bool
is_void_alone s (t ∷ []) = is_void_type s t
is_void_alone s ts = false

-- of one void alone without a name there are no parameters
abbrev pub listed : Checker → Bool → List (Option TypeId) → List (Option TypeId)
listed s is_lone_unnamed ts = if is_lone_unnamed && is_void_alone s ts then [] else ts

abbrev pub shaped_by : Shaped → Checker × TypeId → Checker × Shaped
shaped_by d p = (p.0, with_kind d (Some p.1))

abbrev pub all_taken : List (Option TypeId) → Checker × TypeId → Checker × TypeId
all_taken ts p = taking_all ts p.1 p.0

abbrev pub function_of_made : Checker → Counted → List (Option TypeId) → Shaped → TypeId → Checker × Shaped
function_of_made s n ts d t =
    let is_broken = is_no_result (shape_of s.symbols.types t) || has_struct s ts in
    shaped_by (faulted_if d is_broken n rule.function_type) (all_taken ts (typed_by s (interning.function_made s.symbols.types t)))

abbrev pub function_at : Checker → Counted → List (Option TypeId) → Shaped → Option TypeId → Checker × Shaped
function_at s n ts d None = (s, faulted_if d (has_struct s ts) n rule.function_type)
function_at s n ts d (Some t) = function_of_made s n (reverse ts) d t

-- A function with these parameters and this as its result. Where a parameter has no type, nothing is judged.
abbrev pub function_made : Checker → Counted → List (Option TypeId) → Shaped → Checker × Shaped
function_made s n ts d = if is_untyped ts then (s, unjudged d) else function_at s n ts d d.kind

abbrev pub with_depths : Checker → List DepthItem → Checker
with_depths s x = with_symbols s (record s.symbols { depths = x })

abbrev pub depths_listed : Checker → Checker
depths_listed s = with_depths s (caught_up s.symbols.types s.symbols.structs s.symbols.depths)

abbrev pub depth_at : Checker → TypeId → ℕ
depth_at s t = (depth_in s.symbols.structs s.symbols.depths (shape_of s.symbols.types t)).whole

abbrev pub depth_asked : Checker → TypeId → Checker × ℕ
depth_asked s t = let l = depths_listed s in (l, depth_at l t)

abbrev pub limited_by : Counted → Bool → Shaped → Shaped
limited_by n is_deep d = if is_deep then with_kind (faulted_if d true n rule.array_size) None else d

abbrev pub limited_as : Counted → Shaped → Checker × ℕ → Checker × Shaped
limited_as n d p = (p.0, limited_by n (nat_lt 64 p.1) d)

abbrev pub limited_to : Checker → Counted → Shaped → Option TypeId → Checker × Shaped
limited_to s n d (Some t) = limited_as n d (depth_asked s t)
limited_to s n d None = (s, d)

-- what is too deep at this node has no type
abbrev pub limited_at : Checker → Counted → Shaped → Checker × Shaped
limited_at s n d = limited_to s n d d.kind

-- the same, if there is a node
abbrev pub limited : Checker → Option Counted → Shaped → Checker × Shaped
limited s (Some n) d = limited_at s n d
limited s None d = (s, d)

abbrev pub formed_as : Checker × Shaped → Checker × Formed
formed_as p = (settled p.0 (judged_fault p.1), record { kind = p.1.kind; is_judged = p.1.is_judged })

-- what a declarator gives, once its forms are read
abbrev pub formed : Checker → Option Counted → Shaped → Checker × Formed
formed s n d = formed_as (limited s n d)

abbrev pub type_name_as : Counted → Checker × Formed → Checker
type_name_as n p = with_kind_at p.0 n.number p.1.kind

-- the type of a type name; `(void *)` is excused where it stands before a zero
abbrev pub type_name_made : Checker → Counted → Option Counted → Bool → Shaped → Checker
type_name_made s n outermost is_before_zero d =
    type_name_as n (formed s outermost (excused_if d (is_before_zero && is_void_pointer s d.kind)))
