-- Members and subscripts (C17 6.5.2.1, 6.5.2.3): C46 and C47.
use Rattle.std.specs.Prelude.{ℕ, ◌-◌, ◌^◌, nat_le, Bool, ◌&&◌, List, Option, Some, None, if◌then◌else◌}
use Rattle.cc_types.specs.declared.shape.Shape.{Shape}
use Rattle.cc_types.specs.declared.shape.Shape.TheVariants as s
use Rattle.cc_types.specs.declared.shape.TypeId.{TypeId}
use Rattle.cc_types.specs.declared.structs.StructEntry.{StructEntry}
use Rattle.cc_types.specs.declared.expr_type.ExprType.{ExprType}
use Rattle.cc_types.specs.declared.expr_type.ExprType.TheVariants.{Plain, Address}
use Rattle.cc_types.specs.Interning.{shape_of}
use Rattle.cc_types.specs.Asked.{value_in, pointee_in, also_const}
use Rattle.cc_types.specs.Structs.{member_named}
use Rattle.cc_judging.specs.declared.judged.Judged.{Judged}
use Rattle.cc_judging.specs.declared.judged.Judged.TheVariants.{Typed, Breaks, Untyped}
use Rattle.cc_judging.specs.declared.judged.Part.TheVariants.{Whole}
use Rattle.cc_judging.specs.declared.members.Selection.{Selection}
use Rattle.cc_judging.specs.Judging.{or_breaks}
use Rattle.cc_judging.specs.Asking.{is_integer, is_complete}

abbrev pub nothing : Judged → Selection
nothing j = record { judged = j; place = None }

abbrev pub no_member : Selection
no_member = nothing (Breaks 47 Whole)

-- the place of a member, where 32 bits can say it
abbrev pub narrowed : ℕ → Option ℕ
narrowed n = if nat_le n (2 ^ 32 - 1) then Some n else None

-- a member of a const struct is const
abbrev pub at_place : List Shape → Bool → ℕ → TypeId → Selection
at_place ss k n id = record { judged = Typed (Plain (also_const k (shape_of ss id))); place = narrowed n }

abbrev pub found : List Shape → Bool → Option (ℕ × TypeId) → Selection
found ss k (Some m) = at_place ss k m.0 m.1
found ss k None = no_member

-- the member of this name; an incomplete struct has none
abbrev pub selected : List Shape → List StructEntry → Shape → List ℕ → Selection
selected ss es (s.Struct k id) x = found ss k (member_named es id x)
selected ss es a x = no_member

abbrev pub member_judged : List Shape → List StructEntry → Option ExprType → List ℕ → Selection
member_judged ss es (Some (Plain a)) x = selected ss es a x
member_judged ss es (Some (Address a)) x = no_member
member_judged ss es None x = nothing Untyped

abbrev pub selected_at : List Shape → List StructEntry → Option Shape → List ℕ → Selection
selected_at ss es (Some a) x = selected ss es a x
selected_at ss es None x = no_member

abbrev pub pointed : List Shape → List StructEntry → ExprType → List ℕ → Selection
pointed ss es t x = selected_at ss es (pointee_in ss t) x

abbrev pub arrow_judged : List Shape → List StructEntry → Option ExprType → List ℕ → Selection
arrow_judged ss es (Some t) x = pointed ss es (value_in ss t) x
arrow_judged ss es None x = nothing Untyped

-- a pointer to a complete object type, and an integer
abbrev pub subscript_at : List Shape → List StructEntry → Option Shape → ExprType → Judged
subscript_at ss es (Some a) t = or_breaks (is_complete ss es a && is_integer ss t) (Plain a) 46 Whole
subscript_at ss es None t = Breaks 46 Whole

abbrev pub subscript_judged : List Shape → List StructEntry → ExprType → ExprType → Judged
subscript_judged ss es s t = subscript_at ss es (pointee_in ss s) t

abbrev pub index_judged : List Shape → List StructEntry → Option ExprType → Option ExprType → Judged
index_judged ss es (Some s) (Some t) = subscript_judged ss es (value_in ss s) (value_in ss t)
index_judged ss es s t = Untyped
