-- Which nodes are evaluated: those that a run of a function with a body may come to.
use Rattle.std.specs.Prelude.{ℕ, Bool, true, false, nat_eq, if◌then◌else◌, List, [], Option, Some, None, slice_get}
use Rattle.cc_arena.specs.Arenas.{node_of}
use Rattle.cc_arena.specs.declared.arena.Placed.{Placed}
use Rattle.cc_arena.specs.declared.node.Node.{Node}
use Rattle.cc_arena.specs.declared.node.Node.TheVariants as node
use Rattle.cc_arena_rules.specs.Inherited.{inherited_from}
use Rattle.cc_program.specs.Programs.{names}
use Rattle.cc_program.specs.declared.program.Program.{Program}
use Rattle.cc_program.specs.declared.program.Referent.{Referent}
use Rattle.cc_program.specs.declared.program.Referent.TheVariants as referent
use Rattle.cc_program.specs.declared.variable.Variable.{Variable}
use Rattle.cc_program.specs.declared.variable.VarId.{VarId}
use Rattle.cc_symbols.specs.declared.declared.Life.{Life}
use Rattle.cc_symbols.specs.declared.declared.Life.TheVariants as life
use Rattle.cc_graph.specs.declared.standing.Standing.{Standing}
use Rattle.cc_graph.specs.declared.standing.Standing.TheVariants.{Unevaluated, Declaring, Evaluated, Defining}

abbrev pub is_local_life : Life → Bool
is_local_life life.Static = false
is_local_life life.Local = true
is_local_life life.Formal = false
is_local_life life.Parameter = false

abbrev pub is_local_variable : Option Variable → Bool
is_local_variable (Some v) = is_local_life v.life
is_local_variable None = false

abbrev pub is_local : Program → VarId → Bool
is_local p v = is_local_variable (slice_get p.variables v.0)

abbrev pub is_automatic_referent : Program → Option Referent → Bool
is_automatic_referent p (Some (referent.Variable v)) = is_local p v
is_automatic_referent p r = false

-- the node n names an automatic object: one of a block that isn't `static` (C17 6.2.4)
abbrev pub is_automatic : Program → ℕ → Bool
is_automatic p n = is_automatic_referent p (names p n)

abbrev pub evaluated_if : Bool → Standing
evaluated_if holds = if holds then Evaluated else Unevaluated

-- of a function with its body, its block alone is evaluated
abbrev pub standing_in_definition : Node → ℕ → Standing
standing_in_definition (node.Definition d block) n = evaluated_if (nat_eq block n)
standing_in_definition above n = Unevaluated

-- In a declaration, a declarator is evaluated where it introduces an automatic object. It stands for its name; its forms have
-- no points, and neither have specifiers, array lengths and parameters.
abbrev pub standing_in_declaration : Program → ℕ → Node → Standing
standing_in_declaration p n (node.Declared e) = evaluated_if (is_automatic p n)
standing_in_declaration p n (node.Pointer d) = Declaring
standing_in_declaration p n (node.Array d e) = Declaring
standing_in_declaration p n (node.Function d ts) = Declaring
standing_in_declaration p n (node.Group d) = Declaring
standing_in_declaration p n what = Unevaluated

abbrev pub evaluated_or_declaring : Node → Standing
evaluated_or_declaring (node.Declaration ds) = Declaring
evaluated_or_declaring what = Evaluated

-- The parts of an evaluated node are evaluated, but for the operand of `sizeof`, the value of a `case` and the type of a cast.
abbrev pub standing_in_evaluated : Node → ℕ → Node → Standing
standing_in_evaluated (node.SizeExpr e) n what = Unevaluated
standing_in_evaluated (node.SizeType t) n what = Unevaluated
standing_in_evaluated (node.Case e) n what = Unevaluated
standing_in_evaluated (node.Cast t e) n what = evaluated_if (nat_eq e n)
standing_in_evaluated above n what = evaluated_or_declaring what

-- the part n, which is `what`, of `above`, which itself stands so
abbrev pub standing_in : Program → Node → ℕ → Node → Standing → Standing
standing_in p above n what Unevaluated = Unevaluated
standing_in p above n what Declaring = standing_in_declaration p n what
standing_in p above n what Evaluated = standing_in_evaluated above n what
standing_in p above n what Defining = standing_in_definition above n

abbrev pub standing_below : Program → Option Node → ℕ → Node → Option Standing → Standing
standing_below p (Some above) n what (Some own) = standing_in p above n what own
standing_below p (Some above) n what None = Unevaluated
standing_below p None n what own = Unevaluated

abbrev pub is_definition : Node → Bool
is_definition (node.Definition d block) = true
is_definition what = false

-- the node n, which is x; the node of which it is a part stands so
abbrev pub standing_of : Program → ℕ → Placed → Option Standing → Standing
standing_of p n x own = if is_definition x.node then Defining else standing_below p (node_of (slice_get p.arena.nodes x.parent)) n x.node own

-- of all nodes
abbrev pub standings : Program → List Standing
standings p = inherited_from (standing_of p) 0 p.arena.nodes 0 []
