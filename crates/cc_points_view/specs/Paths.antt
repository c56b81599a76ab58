-- The pointers in each struct type: how many parts they come after a part of this type. Parts of one type are made alike,
-- so the first one tells.
use Rattle.std.specs.Prelude.{ℕ, ◌+◌, Bool, true, false, nat_le, cond, if◌then◌else◌, List, [], ◌∷◌, ◌++◌, length, take, Option, Some, None, slice_get}
use Rattle.cc_arena.specs.declared.node.Span.{Span}
use Rattle.cc_symbols.specs.Places.{put_far}
use Rattle.cc_parts.specs.declared.part.Part.{Part}
use Rattle.cc_parts.specs.declared.part.Form.{Form}
use Rattle.cc_parts.specs.declared.part.Form.TheVariants as form
use Rattle.cc_points_view.specs.declared.functions.Tables.{Tables}

abbrev pub with_offset : Form → ℕ → List ℕ → List ℕ
with_offset form.Pointer offset lists = lists ++ offset ∷ []
with_offset f offset lists = lists

-- with the places of the pointers among these parts, the first of which has this place
abbrev pub with_offsets : List Part → ℕ → List ℕ → List ℕ
with_offsets [] offset lists = lists
with_offsets (p ∷ ps) offset lists = with_offsets ps (offset + 1) (with_offset p.form offset lists)

abbrev pub first_parts : List Part → ℕ → List Part
first_parts parts size = if nat_le size (length parts) then take size parts else []

abbrev pub is_some_span : Option (Option Span) → Bool
is_some_span (Some (Some s)) = true
is_some_span s = false

abbrev pub is_known : List (Option Span) → ℕ → Bool
is_known paths id = is_some_span (slice_get paths id)

abbrev pub a_span : ℕ → ℕ → Option Span
a_span start last = Some (record { start = start; «end» = last })

-- with the pointers of a struct type, where a part of it is made of these
abbrev pub with_struct : ℕ → List Part → Tables → Tables
with_struct id parts T = record {
  lists = with_offsets parts 0 T.lists;
  functions = T.functions;
  paths = put_far T.paths id (a_span (length T.lists) (length (with_offsets parts 0 T.lists))) None;
}

-- with those of the type of a part, of so many parts, with which these begin
abbrev pub with_part : Form → ℕ → List Part → Tables → Tables
with_part (form.Struct id) size parts T = if is_known T.paths id.0 then T else with_struct id.0 (first_parts parts size) T
with_part f size parts T = T

abbrev pub with_paths : List Part → Tables → Tables
with_paths [] T = T
with_paths (p ∷ ps) T = with_paths ps (with_part p.form p.size (p ∷ ps) T)
