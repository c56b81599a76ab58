-- How much room types take: cells, bytes, and what else is measured of them from their parts.
use Rattle.std.specs.Prelude.{ℕ, ◌+◌, ◌-◌, ◌*◌, ◌%◌, ◌^◌, min, nat_lt, nat_le, Bool, true, false, ◌&&◌, ◌||◌, if◌then◌else◌, List, [], ◌∷◌, Option, Some, None, slice_index_or}
use Rattle.cc_arith.specs.declared.kind.IntKind.{IntKind}
use Rattle.cc_arith.specs.declared.kind.IntKind.TheVariants.{Bool as BoolKind, Char, SChar, UChar, Short, UShort, Int, UInt, Long, ULong, LLong, ULLong}
use Rattle.cc_tree.specs.declared.ids.StructId.{StructId}
use Rattle.cc_types.specs.declared.measure.Measure.{Measure}
use Rattle.cc_types.specs.declared.structs.StructEntry.{StructEntry}
use Rattle.cc_types.specs.declared.structs.Member.{Member}
use Rattle.cc_types.specs.CTypes.{CTypeTree, void, integer_of, pointer_to, array_of, returning, taking, struct_by, has_const}
use Rattle.cc_types.specs.Shapes.{type_at}

-- No number here is above 2 ^ 64 - 1: what is above it counts as that many, and an object may have 1,048,576 cells at most.
abbrev pub capped : ℕ → ℕ
capped n = min n (2 ^ 64 - 1)

-- the bytes of an integer (C17 6.5.3.4)
abbrev pub bytes_of : IntKind → ℕ
bytes_of BoolKind = 1
bytes_of Char = 1
bytes_of SChar = 1
bytes_of UChar = 1
bytes_of Short = 2
bytes_of UShort = 2
bytes_of Int = 4
bytes_of UInt = 4
bytes_of Long = 8
bytes_of ULong = 8
bytes_of LLong = 8
bytes_of ULLong = 8

-- void, a function type, or a struct without members as yet: incomplete or no object type, so there is nothing to measure
abbrev pub nothing : Measure
nothing = record { is_complete = false; cells = 0; size = 0; alignment = 1; has_const_part = false }

-- a scalar of so many bytes: one cell, aligned to its own size
abbrev pub scalar : ℕ → Measure
scalar n = record { is_complete = true; cells = 1; size = n; alignment = n; has_const_part = false }

abbrev pub is_known : Option ℕ → Bool
is_known (Some n) = true
is_known None = false

abbrev pub count_of : Option ℕ → ℕ
count_of (Some n) = n
count_of None = 0

-- An array of so many elements, const or not, of which one is measured here. It is complete where its length is known and
-- an element is; it has the cells and the bytes of all its elements (6.2.5, paragraph 20).
abbrev pub arrayed : Bool → Option ℕ → Measure → Measure
arrayed k n m = record {
  is_complete = is_known n && m.is_complete;
  cells = capped (count_of n * m.cells);
  size = capped (count_of n * m.size);
  alignment = m.alignment;
  has_const_part = k || m.has_const_part;
}

-- the bytes from n to the next multiple of a
abbrev pub gap : ℕ → ℕ → ℕ
gap n a = if nat_le a 1 then 0 else (a - n % a) % a

abbrev pub padded : ℕ → ℕ → ℕ
padded n a = capped (n + gap n a)

abbrev pub larger : ℕ → ℕ → ℕ
larger a b = if nat_lt a b then b else a

-- a struct with one member more (6.7.2.1, paragraph 15): k says whether the member is const, and m measures its type
abbrev pub joined : Measure → Bool → Measure → Measure
joined s k m = record {
  is_complete = s.is_complete && m.is_complete;
  cells = capped (s.cells + m.cells);
  size = capped (padded s.size m.alignment + m.size);
  alignment = larger s.alignment m.alignment;
  has_const_part = s.has_const_part || k || m.has_const_part;
}

-- a struct before its first member
abbrev pub empty : Measure
empty = record { is_complete = true; cells = 0; size = 0; alignment = 1; has_const_part = false }

-- a struct after its last member: padded, so that in an array each stands aligned (6.7.2.1, paragraph 17)
abbrev pub ended : Measure → Measure
ended s = record { is_complete = s.is_complete; cells = s.cells; size = padded s.size s.alignment; alignment = s.alignment; has_const_part = s.has_const_part }

-- a struct without members as yet
abbrev pub declared_entry : Bool → ℕ → StructEntry
declared_entry is_tagged token = record { is_tagged = is_tagged; token = token; members = []; measure = nothing; depth = record { whole = 1; inside = 1 } }

-- what a struct keeps, by its number; past the last one nothing
abbrev pub entry_of : List StructEntry → StructId → StructEntry
entry_of es id = slice_index_or es id.0 (declared_entry false 0)

-- what a type measures, where these are the structs
abbrev pub measure_of : List StructEntry → CTypeTree → Measure
measure_of es (void k) = nothing
measure_of es (integer_of k kind) = scalar (bytes_of kind)
measure_of es (pointer_to k t) = scalar 8
measure_of es (array_of k t n) = arrayed k n (measure_of es t)
measure_of es (returning t) = nothing
measure_of es (taking t f) = nothing
measure_of es (struct_by k id) = (entry_of es id).measure

-- the members measured one after another
abbrev pub members_from : List CTypeTree → List StructEntry → Measure → List Member → Measure
members_from ts es s [] = s
members_from ts es s (m ∷ ms) = members_from ts es (joined s (has_const (type_at ts m.kind)) (measure_of es (type_at ts m.kind))) ms

abbrev pub members_measured : List CTypeTree → List StructEntry → List Member → Measure
members_measured ts es ms = ended (members_from ts es empty ms)

-- how many arrays stand in one another at a type's top
abbrev pub arrays : CTypeTree → ℕ
arrays (array_of k t n) = 1 + arrays t
arrays t = 0
