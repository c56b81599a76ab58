-- What lvalues read.
use Rattle.std.specs.Prelude.{ℕ, Bool, true, false, ◌&&◌, if◌then◌else◌, List, [], length, Option, Some, None, slice_get}
use Rattle.cc_arena.specs.Arenas.{node_of}
use Rattle.cc_arena.specs.declared.arena.Placed.{Placed}
use Rattle.cc_arena.specs.declared.node.Node.{Node}
use Rattle.cc_arena.specs.declared.node.Node.TheVariants as node
use Rattle.cc_arena_rules.specs.declared.around.Around.{Around}
use Rattle.cc_arena_rules.specs.Surroundings.{surroundings}
use Rattle.cc_facts.specs.declared.facts.Facts.{Facts}
use Rattle.cc_graph.specs.declared.graph.Graph.{Graph}
use Rattle.cc_listed.specs.declared.table.Access.{Access}
use Rattle.cc_program.specs.declared.program.Program.{Program}
use Rattle.cc_tree.specs.declared.operator.AssignOp.TheVariants as assign
use Rattle.cc_tree.specs.declared.operator.UnaryOp.TheVariants as unary
use Rattle.cc_types.specs.declared.expr_type.ExprType.{ExprType}
use Rattle.cc_uses.specs.declared.peel.Peeled.{Peeled}
use Rattle.cc_uses.specs.declared.put.Reach.{Reach}
use Rattle.cc_uses.specs.declared.put.Reach.TheVariants.{Itself, Inner}
use Rattle.cc_uses.specs.Peeling.{peeled, inner_at}
use Rattle.cc_uses.specs.Putting.{put_from}
use Rattle.cc_uses.specs.Accessing.{reach_of, with_lvalue}
use Rattle.cc_uses.specs.Writing.{type_of, after}

-- an lvalue without parentheses around it; a string literal reads nothing
abbrev pub is_lvalue : Node → Bool
is_lvalue node.Name = true
is_lvalue (node.Unary unary.Deref e) = true
is_lvalue (node.Member e) = true
is_lvalue (node.Arrow e) = true
is_lvalue (node.Index a b) = true
is_lvalue x = false

-- whether an lvalue there is used as a value
abbrev pub is_value : Option Around → Bool
is_value (Some a) = a.is_value
is_value None = false

abbrev pub itself : Option Reach → Option Reach
itself (Some Itself) = Some Itself
itself r = None

-- an lvalue of scalar type reads where it is used as a value
abbrev pub read_reach : Node → Bool → Option ExprType → Option Reach
read_reach x is_used t = if is_lvalue x && is_used then itself (reach_of t) else None

abbrev pub inner_if : Bool → Option Reach → Option Reach
inner_if true (Some Inner) = Some Inner
inner_if b r = None

-- an lvalue of struct type reads where it is the right side of a plain assignment
abbrev pub copy_reach : Option Node → Option ExprType → Option Reach
copy_reach (Some x) t = inner_if (is_lvalue x) (reach_of t)
copy_reach None t = None

-- the right side of a plain assignment
abbrev pub right_of : Node → Option ℕ
right_of (node.Assign assign.Plain a b) = Some b
right_of x = None

-- the lvalue l is the right side of an assignment
abbrev pub with_right : Program → Graph → Facts → ℕ → List Access → List Access
with_right p g F l out = with_lvalue F (copy_reach (node_of (slice_get p.arena.nodes l)) (type_of p l)) (after g l) l out

-- parentheses aside
abbrev pub with_right_of : Program → Graph → Facts → List Peeled → Option ℕ → List Access → List Access
with_right_of p g F all (Some b) out = with_right p g F (inner_at all b) out
with_right_of p g F all None out = out

-- with what the right side of the node reads as a struct, if it has one
abbrev pub with_copied : Program → Graph → Facts → List Peeled → Node → List Access → List Access
with_copied p g F all x out = with_right_of p g F all (right_of x) out

-- with what the node n reads, and what its right side reads as a struct
abbrev pub put_read : Program → Graph → Facts → List Peeled → List Around → ℕ → Placed → List Access → List Access
put_read p g F all around n x out =
    with_copied p g F all x.node (with_lvalue F (read_reach x.node (is_value (slice_get around n)) (type_of p n)) (after g n) n out)

abbrev pub all_around : Program → List Around
all_around p = surroundings p.arena p.known.symbols p.known.found 0 (length p.arena.nodes)

abbrev pub reads_of : Program → Graph → Facts → List Access
reads_of p g F = put_from (put_read p g F (peeled p.arena.nodes 0) (all_around p)) p.arena.nodes 0 []
