-- The rules of names, calls, members, subscripts, casts and sizes in terms of types (C17 6.5.1, 6.5.2, 6.5.3.4, 6.5.4).
use Rattle.std.specs.Prelude.{ℕ, Bool, true, false, ◌&&◌, ◌||◌, List, Option, Some, None, if◌then◌else◌}
use Rattle.cc_arith.specs.declared.kind.IntKind.TheVariants.{Char, Int, ULong}
use Rattle.cc_symbols.specs.declared.declared.Form.{Form}
use Rattle.cc_symbols.specs.declared.declared.Form.TheVariants as form
use Rattle.cc_tree.specs.declared.ids.StructId.{StructId}
use Rattle.cc_types.specs.declared.shape.TypeId.{TypeId}
use Rattle.cc_types.specs.declared.structs.StructEntry.{StructEntry}
use Rattle.cc_types.specs.CTypes.{CTypeTree, void, integer_of, pointer_to, array_of, returning, taking, struct_by, with_const, is_function}
use Rattle.cc_types.specs.Shapes.{type_at}
use Rattle.cc_types.specs.Questions.{value_type, pointee_of, is_integer, also_const}
use Rattle.cc_types.specs.Structs.{member_named}
use Rattle.cc_judging.specs.declared.judged.Part.TheVariants.{Whole}
use Rattle.cc_judging.specs.Members.{narrowed}
use Rattle.cc_typing_laws.specs.Judgements.{Judgement, typed, breaks, untyped, an_integer, or_breaks}
use Rattle.cc_typing_laws.specs.Operators.{is_complete}

-- ---- Names, string literals, parentheses

abbrev pub of_type : Option CTypeTree → Judgement
of_type (Some t) = typed t
of_type None = untyped

abbrev pub named : Form → Option CTypeTree → Judgement
named (form.Constant v) t = typed (an_integer Int)
named (form.Object life) t = of_type t
named form.Function t = of_type t
named form.Typedef t = untyped

-- a name that was declared in this form and with this type
abbrev pub name : Option (Form × Option CTypeTree) → Judgement
name (Some d) = named d.0 d.1
name None = untyped

abbrev pub string : ℕ → Judgement
string n = typed (array_of false (integer_of false Char) (Some n))

-- ---- Calls

pub data Passed : Type 0 where
  unknown : Passed
  no_function : Passed
  left : CTypeTree → Passed
  beyond : Passed

abbrev pub left_of : Option CTypeTree → Passed
left_of (Some t) = if is_function t then left t else no_function
left_of None = no_function

abbrev pub called : Option CTypeTree → Passed
called (Some t) = left_of (pointee_of (value_type t))
called None = unknown

abbrev pub parameter : Passed → Option CTypeTree
parameter (left (taking t f)) = Some t
parameter state = None

abbrev pub passed_one : Passed → Passed
passed_one (left (taking t f)) = left f
passed_one (left t) = beyond
passed_one state = state

abbrev pub pass_one : Passed → Option CTypeTree → Passed
pass_one state (Some t) = passed_one state
pass_one state None = unknown

abbrev pub call : Passed → Judgement
call unknown = untyped
call no_function = breaks 36 Whole
call (left (returning t)) = typed t
call (left t) = breaks 37 Whole
call beyond = breaks 37 Whole

-- ---- Members and subscripts

-- the member's place, and what is said
abbrev pub Selected : Type 0
Selected = Judgement × Option ℕ

abbrev pub no_member : Selected
no_member = (breaks 47 Whole, None)

abbrev pub found : List CTypeTree → Bool → Option (ℕ × TypeId) → Selected
found ts k (Some m) = (typed (also_const k (type_at ts m.1)), narrowed m.0)
found ts k None = no_member

abbrev pub selected : List CTypeTree → List StructEntry → Option CTypeTree → List ℕ → Selected
selected ts es (Some (struct_by k id)) x = found ts k (member_named es id x)
selected ts es t x = no_member

abbrev pub member : List CTypeTree → List StructEntry → Option CTypeTree → List ℕ → Selected
member ts es (Some t) x = selected ts es (Some t) x
member ts es None x = (untyped, None)

abbrev pub arrow : List CTypeTree → List StructEntry → Option CTypeTree → List ℕ → Selected
arrow ts es (Some t) x = selected ts es (pointee_of (value_type t)) x
arrow ts es None x = (untyped, None)

abbrev pub subscript : List StructEntry → Option CTypeTree → CTypeTree → Judgement
subscript es (Some s) t = or_breaks (is_complete es s && is_integer t) s 46 Whole
subscript es None t = breaks 46 Whole

abbrev pub index : List StructEntry → Option CTypeTree → Option CTypeTree → Judgement
index es (Some s) (Some t) = subscript es (pointee_of (value_type s)) (value_type t)
index es s t = untyped

-- ---- Casts and sizes

abbrev pub may_be_cast : CTypeTree → CTypeTree → Bool
may_be_cast (void k) t = true
may_be_cast (integer_of k kind) t = is_integer t
may_be_cast s t = false

abbrev pub cast : Option CTypeTree → Bool → Option CTypeTree → Judgement
cast (Some s) is_null (Some t) =
    if is_null || may_be_cast s (value_type t) then typed (with_const false s) else breaks 49 Whole
cast s is_null t = untyped

abbrev pub size : List StructEntry → Option CTypeTree → Judgement
size es (Some t) = if is_complete es t then typed (an_integer ULong) else breaks 50 Whole
size es None = untyped
