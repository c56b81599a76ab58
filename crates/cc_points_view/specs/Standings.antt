-- What each occurrence has from the nodes around it.
use Rattle.std.specs.Prelude.{ℕ, ◌+◌, ◌-◌, ◌^◌, min, Bool, true, false, ◌&&◌, nat_eq, nat_lt, if◌then◌else◌, List, [], ◌∷◌, ◌++◌, Option, Some, None, slice_get}
use Rattle.cc_arena.specs.Arenas.{node_of, stretch}
use Rattle.cc_arena.specs.declared.arena.Placed.{Placed}
use Rattle.cc_arena.specs.declared.node.Node.{Node}
use Rattle.cc_arena.specs.declared.node.Node.TheVariants as node
use Rattle.cc_parts.specs.declared.part.Part.{Part}
use Rattle.cc_parts.specs.declared.part.Form.{Form}
use Rattle.cc_parts.specs.declared.part.Form.TheVariants as form
use Rattle.cc_parts.specs.declared.parts.Object.{Object}
use Rattle.cc_parts.specs.declared.parts.Parts.{Parts}
use Rattle.cc_parts.specs.PartTables.{element_of, member_of}
use Rattle.cc_program.specs.declared.program.Program.{Program}
use Rattle.cc_program.specs.declared.program.Referent.{Referent}
use Rattle.cc_program.specs.declared.program.Referent.TheVariants as referent
use Rattle.cc_program.specs.Programs.{names}
use Rattle.cc_points_view.specs.declared.standing.Standing.{Standing}

abbrev pub or_none : {A : Type 0} → Option (Option A) → Option A
or_none (Some x) = x
or_none None = None

-- of what is a part of nothing
abbrev pub outermost : Standing
outermost = record { is_evaluated = false; function = None; cell = None }

abbrev pub is_at : Option ℕ → ℕ → Bool
is_at (Some p) n = nat_eq p n
is_at None n = false

abbrev pub first_or_none : Option Object → Option ℕ
first_or_none (Some o) = Some o.first
first_or_none None = None

-- the whole object of a variable
abbrev pub whole_of : Parts → Option Referent → Option ℕ
whole_of parts (Some (referent.Variable v)) = first_or_none (slice_get parts.objects v.0)
whole_of parts r = None

abbrev pub is_variable : Option Referent → Bool
is_variable (Some (referent.Variable v)) = true
is_variable r = false

-- Whether the node n is evaluated, a part of `above`, whose number is `up` and of which `own` says the same. The body of a
-- function is, and the initialiser of a variable; the operand of `sizeof`, a case value, the value of an enumeration
-- constant and the length of an array aren't.
abbrev pub is_evaluated : Program → Node → ℕ → ℕ → Bool → Bool
is_evaluated p (node.Definition d block) up n own = nat_eq block n
is_evaluated p (node.Declared i) up n own = is_variable (names p up)
is_evaluated p (node.SizeExpr e) up n own = false
is_evaluated p (node.Case e) up n own = false
is_evaluated p (node.Constant e) up n own = false
is_evaluated p (node.Array inner l) up n own = is_at inner n && own
is_evaluated p above up n own = own

-- the function in whose body the node n stands; `bodies` has the functions by the nodes of their bodies
abbrev pub function_in : List (Option ℕ) → Node → ℕ → Option ℕ → Option ℕ
function_in bodies (node.Definition d block) n own = if nat_eq block n then or_none (slice_get bodies n) else None
function_in bodies above n own = own

-- the place of a number in a list, counted from k
abbrev pub place_from : ℕ → List ℕ → ℕ → Option ℕ
place_from k [] n = None
place_from k (x ∷ xs) n = if nat_eq x n then Some k else place_from (min (k + 1) (2 ^ 32 - 1)) xs n

abbrev pub member_cell : Parts → ℕ → Option ℕ → Option ℕ
member_cell parts q (Some m) = member_of parts.parts q m
member_cell parts q None = None

abbrev pub braced_by : Form → Parts → List ℕ → ℕ → ℕ → Option ℕ
braced_by form.Array parts items n q = element_of parts.parts q
braced_by (form.Struct id) parts items n q = member_cell parts q (place_from 0 items n)
braced_by form.Number parts items n q = Some q
braced_by form.Pointer parts items n q = Some q
braced_by form.Other parts items n q = None

abbrev pub braced_in : Option Part → Parts → List ℕ → ℕ → ℕ → Option ℕ
braced_in (Some p) parts items n q = braced_by p.form parts items n q
braced_in None parts items n q = None

-- What the node n initialises that stands in braces which initialise the part q: of an array its elements, of a struct the
-- member at the same place, of a scalar the scalar itself (C17 6.7.9).
abbrev pub braced : Parts → List ℕ → ℕ → ℕ → Option ℕ
braced parts items n q = braced_in (slice_get parts.parts q) parts items n q

abbrev pub braced_if : Parts → List ℕ → ℕ → Option ℕ → Option ℕ
braced_if parts items n (Some q) = braced parts items n q
braced_if parts items n None = None

-- the part that the node n initialises
abbrev pub cell_in : Program → Parts → Node → ℕ → ℕ → Option ℕ → Option ℕ
cell_in p parts (node.Declared i) up n own = whole_of parts (names p up)
cell_in p parts (node.Braces s) up n own = braced_if parts (stretch p.arena.lists s) n own
cell_in p parts above up n own = None

abbrev pub below : Program → Parts → List (Option ℕ) → Node → ℕ → ℕ → Standing → Standing
below p parts bodies above up n own = record {
  is_evaluated = is_evaluated p above up n own.is_evaluated;
  function = function_in bodies above n own.function;
  cell = cell_in p parts above up n own.cell;
}

abbrev pub below_or_outermost : Program → Parts → List (Option ℕ) → Option Node → ℕ → ℕ → Option Standing → Standing
below_or_outermost p parts bodies (Some above) up n (Some own) = below p parts bodies above up n own
below_or_outermost p parts bodies (Some above) up n None = outermost
below_or_outermost p parts bodies None up n own = outermost

-- of the node n, whose parent is `up`
abbrev pub standing_of : Program → Parts → List (Option ℕ) → ℕ → ℕ → Option Standing → Standing
standing_of p parts bodies n up own = below_or_outermost p parts bodies (node_of (slice_get p.arena.nodes up)) up n own

-- of all nodes from the n-th on, after those that are there; what a node has is made of what its parent has, which comes before
abbrev pub standings_from : Program → Parts → List (Option ℕ) → List Placed → ℕ → List Standing → List Standing
standings_from p parts bodies [] n done = done
standings_from p parts bodies (x ∷ xs) n done =
    standings_from p parts bodies xs (n + 1) (done ++ standing_of p parts bodies n x.parent (slice_get done x.parent) ∷ [])
