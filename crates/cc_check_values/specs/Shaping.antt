-- The shape of initialisers (C25), and what is asked of their scalars.
use Rattle.std.specs.Prelude.{ℕ, ◌+◌, ℤ, pos, Bool, true, false, not, ◌&&◌, nat_lt, nat_eq, if◌then◌else◌, List, Option, Some, None, is_some, slice_get}
use Rattle.std.specs.Ordering.{int_eq}
use Rattle.cc_tree.specs.declared.ids.StructId.{StructId}
use Rattle.cc_tree.specs.Trees.{ExprTree, integer, string, ValueTree, single, braces, ValueTrees, no_values, more_values}
use Rattle.cc_tree_notes.specs.declared.note.Counted.{Counted}
use Rattle.cc_types.specs.declared.shape.Shape.{Shape}
use Rattle.cc_types.specs.declared.shape.Shape.TheVariants as s
use Rattle.cc_types.specs.declared.shape.TypeId.{TypeId}
use Rattle.cc_types.specs.declared.structs.Member.{Member}
use Rattle.cc_types.specs.Interning.{shape_of}
use Rattle.cc_types.specs.Measures.{entry_of}
use Rattle.cc_symbols.specs.declared.declared.Life.{Life}
use Rattle.cc_symbols.specs.declared.findings.Findings.{Findings}
use Rattle.cc_symbols.specs.declared.symbols.Symbols.{Symbols}
use Rattle.cc_check_values.specs.declared.shape.ListKind.{ListKind}
use Rattle.cc_check_values.specs.declared.shape.ListKind.TheVariants.{Zeros, Parts, Lone, Misfit}
use Rattle.cc_check_values.specs.Typed.{type_of, misshapen}
use Rattle.cc_check_values.specs.Lengths.{is_character, string_length}
use Rattle.cc_check_values.specs.Scalars.{lone_checked, typed_checked}

-- the integer constant token of value 0
abbrev pub is_zero_token : ValueTree Counted → Bool
is_zero_token (single (integer n v k)) = int_eq v (pos 0)
is_zero_token v = false

-- from this number on there is none but the first, which is such a token
abbrev pub is_lone_zero : ℕ → ValueTrees Counted → Bool
is_lone_zero i no_values = true
is_lone_zero i (more_values v vs) = (nat_eq i 0 && is_zero_token v) && is_lone_zero (1 + i) vs

-- the final zero of a string literal need not fit
abbrev pub fits_string : Option ℕ → List (List ℕ) → Bool
fits_string None bs = true
fits_string (Some n) bs = not (nat_lt n (string_length bs))

abbrev pub has_element : Option ℕ → ℕ → Bool
has_element None i = true
has_element (Some n) i = nat_lt i n

abbrev pub members_of : Symbols → StructId → List Member
members_of st id = (entry_of st.structs id).members

abbrev pub kind_of_member : Symbols → Option Member → Shape
kind_of_member st (Some m) = shape_of st.types m.kind
kind_of_member st None = s.Void false

-- whether an array or struct has a part of this number
abbrev pub has_part : Symbols → Shape → ℕ → Bool
has_part st (s.Array is_const t n) i = has_element n i
has_part st (s.Struct is_const id) i = is_some (slice_get (members_of st id) i)
has_part st a i = false

-- its type; void where there is none
abbrev pub part_at : Symbols → Shape → ℕ → Shape
part_at st (s.Array is_const t n) i = shape_of st.types t
part_at st (s.Struct is_const id) i = kind_of_member st (slice_get (members_of st id) i)
part_at st a i = s.Void false

abbrev pub is_scalar_shape : Shape → Bool
is_scalar_shape (s.Integer is_const k) = true
is_scalar_shape (s.Pointer is_const t) = true
is_scalar_shape a = false

abbrev pub has_parts : Shape → Bool
has_parts (s.Array is_const t n) = true
has_parts (s.Struct is_const id) = true
has_parts a = false

-- `{0}` over an array or struct whose first part is no scalar: it begins the first scalar by 0, which fits every scalar
abbrev pub is_whole_zero : Symbols → Shape → ValueTrees Counted → Bool
is_whole_zero st a vs = is_lone_zero 0 vs && not (is_scalar_shape (part_at st a 0))

-- what a list in braces does for a type: it begins the whole by zeros, its parts, a scalar, or it can't stand there
abbrev pub aggregate_kind : Bool → ListKind
aggregate_kind is_zero = if is_zero then Zeros else Parts

abbrev pub list_kind : Symbols → Shape → ValueTrees Counted → ListKind
list_kind st a vs =
    if has_parts a then aggregate_kind (is_whole_zero st a vs)
    else (if is_scalar_shape a then Lone else Misfit)

abbrev pub by_kind : {A : Type 0} → ListKind → A → A → A → A → A
by_kind Zeros zeros parts lone misfit = zeros
by_kind Parts zeros parts lone misfit = parts
by_kind Lone zeros parts lone misfit = lone
by_kind Misfit zeros parts lone misfit = misfit

abbrev pub is_string_for : Shape → Option ℕ → ExprTree Counted → Bool
is_string_for a n (string m bs) = is_character a && fits_string n bs
is_string_for a n e = false

-- a string literal for an array of characters
abbrev pub string_checked : Shape → Option ℕ → ExprTree Counted → Findings → Findings
string_checked a n e f = if is_string_for a n e then f else misshapen (single e) f

-- an expression without braces
abbrev pub single_checked : Symbols → Life → Shape → ExprTree Counted → Findings → Findings
single_checked st life (s.Array is_const t n) e f = string_checked (shape_of st.types t) n e f
single_checked st life (s.Integer is_const k) e f = typed_checked st life (s.Integer is_const k) e (type_of f e) f
single_checked st life (s.Pointer is_const t) e f = typed_checked st life (s.Pointer is_const t) e (type_of f e) f
single_checked st life a e f = misshapen (single e) f

abbrev mutual
  -- an initialiser of what has this life and type
  pub value_checked : Symbols → Life → Shape → ValueTree Counted → Findings → Findings
  value_checked st life a (single e) f = single_checked st life a e f
  value_checked st life a (braces n vs trailing) f =
      by_kind (list_kind st a vs)
      f
      (parts_checked st life a 0 vs f)
      (lone_checked st life a (braces n vs trailing) vs f)
      (misshapen (braces n vs trailing) f)

  -- those of its parts, from this number on; what has no part is too much
  pub parts_checked : Symbols → Life → Shape → ℕ → ValueTrees Counted → Findings → Findings
  parts_checked st life a i no_values f = f
  parts_checked st life a i (more_values v vs) f =
      parts_checked st life a (1 + i) vs
      (if has_part st a i then value_checked st life (part_at st a i) v f else misshapen v f)
