-- What assignments and steps write.
use Rattle.std.specs.Prelude.{ℕ, List, [], Option, Some, None, slice_get}
use Rattle.cc_arena.specs.declared.arena.Placed.{Placed}
use Rattle.cc_arena.specs.declared.node.Node.{Node}
use Rattle.cc_arena.specs.declared.node.Node.TheVariants as node
use Rattle.cc_facts.specs.declared.facts.Facts.{Facts}
use Rattle.cc_graph.specs.declared.graph.Graph.{Graph}
use Rattle.cc_graph.specs.declared.position.Position.TheVariants.{After}
use Rattle.cc_graph.specs.Points.{number}
use Rattle.cc_listed.specs.declared.table.Access.{Access}
use Rattle.cc_program.specs.declared.program.Program.{Program}
use Rattle.cc_program.specs.Programs.{or_none}
use Rattle.cc_types.specs.declared.expr_type.ExprType.{ExprType}
use Rattle.cc_uses.specs.declared.peel.Peeled.{Peeled}
use Rattle.cc_uses.specs.Peeling.{peeled, inner_at}
use Rattle.cc_uses.specs.Putting.{put_from}
use Rattle.cc_uses.specs.Accessing.{reach_of, with_lvalue}

-- what an assignment, with any operator, or a step writes
abbrev pub target_of : Node → Option ℕ
target_of (node.Assign op a b) = Some a
target_of (node.Step op side e) = Some e
target_of x = None

abbrev pub type_of : Program → ℕ → Option ExprType
type_of p n = or_none (slice_get p.known.found.types n)

-- the point after a node, where the node is evaluated in the body of a function
abbrev pub after : Graph → ℕ → Option ℕ
after g n = number g.rows (After n)

-- with the slots that the target may have, parentheses aside, after the node n
abbrev pub with_target : Program → Graph → Facts → List Peeled → ℕ → Option ℕ → List Access → List Access
with_target p g F all n (Some e) out = with_lvalue F (reach_of (type_of p (inner_at all e))) (after g n) (inner_at all e) out
with_target p g F all n None out = out

-- with what the node n writes
abbrev pub put_write : Program → Graph → Facts → List Peeled → ℕ → Placed → List Access → List Access
put_write p g F all n x out = with_target p g F all n (target_of x.node) out

abbrev pub writes_of : Program → Graph → Facts → List Access
writes_of p g F = put_from (put_write p g F (peeled p.arena.nodes 0)) p.arena.nodes 0 []
