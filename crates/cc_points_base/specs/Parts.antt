-- What a target is and what it has.
use Rattle.std.specs.Prelude.{ℕ, ◌-◌, Bool, true, false, nat_lt, nat_le, ◌&&◌, cond, List, [], length, slice_range, slice_get, Option, Some, None}
use Rattle.cc_arena.specs.declared.node.Span.{Span}
use Rattle.cc_parts.specs.PartTables as table
use Rattle.cc_points_base.specs.declared.view.Callee.{Callee}
use Rattle.cc_points_base.specs.declared.view.View.{View}

-- the list that stands at the span; where the span isn't in the lists, none
abbrev pub part_list : List ℕ → Span → List ℕ
part_list lists s = cond (nat_le s.start s.«end» && nat_le s.«end» (length lists)) (slice_range lists s.start s.«end») []

-- how many parts there are, and slots by the same numbers
abbrev pub slots_in : View → ℕ
slots_in P = table.count_of P.parts.parts

abbrev pub is_part : View → ℕ → Bool
is_part P t = nat_lt t (slots_in P)

-- the place of a target among the functions, which come after the parts
abbrev pub place_of : View → ℕ → Option ℕ
place_of P t = cond (nat_le (slots_in P) t) (Some (t - slots_in P)) None

abbrev pub callee_at : View → Option ℕ → Option Callee
callee_at P (Some i) = slice_get P.functions i
callee_at P None = None

abbrev pub callee_of : View → ℕ → Option Callee
callee_of P t = callee_at P (place_of P t)

abbrev pub is_callee : Option Callee → Bool
is_callee (Some c) = true
is_callee None = false

abbrev pub is_function : View → ℕ → Bool
is_function P t = is_callee (callee_of P t)

abbrev pub if_defined : Option Callee → Option ℕ → Option ℕ
if_defined (Some c) i = cond c.is_defined i None
if_defined None i = None

-- the number of a target that is a function with a body
abbrev pub function_of : View → ℕ → Option ℕ
function_of P t = if_defined (callee_of P t) (place_of P t)

-- the slot of a part of scalar type, which has the number of the part
abbrev pub slot_of : View → ℕ → Option ℕ
slot_of P q = cond (nat_lt q (slots_in P) && table.is_slot P.parts.parts q) (Some q) None

abbrev pub slot_in : View → Option ℕ → Option ℕ
slot_in P (Some q) = slot_of P q
slot_in P None = None

abbrev pub formal_in : View → Option Callee → ℕ → Option ℕ
formal_in P (Some c) k = slot_in P (slice_get (part_list P.lists c.formals) k)
formal_in P None k = None

-- the slot of the k-th formal of a function
abbrev pub formal_of : View → ℕ → ℕ → Option ℕ
formal_of P g k = formal_in P (callee_of P g) k

-- the part with the array step
abbrev pub element_of : View → ℕ → Option ℕ
element_of P q = table.element_of P.parts.parts q

-- the part with a member step
abbrev pub member_of : View → ℕ → ℕ → Option ℕ
member_of P q m = table.member_of P.parts.parts q m

-- the slot of the pointer to which so many parts after a part of this struct type lead
abbrev pub leaf_of : View → ℕ → ℕ → ℕ → Option ℕ
leaf_of P id q w = table.pointer_in P.parts.parts id q w
