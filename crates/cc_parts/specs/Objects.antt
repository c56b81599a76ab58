-- The objects of a program: variables and string literals.
use Rattle.std.specs.Prelude.{ℕ, ◌+◌, List, [], ◌∷◌}
use Rattle.cc_arena.specs.declared.arena.Placed.{Placed}
use Rattle.cc_arena.specs.declared.node.Node.{Node}
use Rattle.cc_arena.specs.declared.node.Node.TheVariants as node
use Rattle.cc_types.specs.declared.shape.Shape.{Shape}
use Rattle.cc_types.specs.declared.structs.StructEntry.{StructEntry}
use Rattle.cc_program.specs.declared.program.Program.{Program}
use Rattle.cc_program.specs.declared.variable.Variable.{Variable}
use Rattle.cc_parts.specs.declared.parts.Parts.{Parts}
use Rattle.cc_parts.specs.PartTables.{no_parts, with_object, with_literal}

-- with these variables at the end
abbrev pub with_variables : List Shape → List StructEntry → List Variable → Parts → Parts
with_variables ss es [] P = P
with_variables ss es (v ∷ vs) P = with_variables ss es vs (with_object ss es v.declarator v.ty P)

abbrev pub with_node : ℕ → Node → Parts → Parts
with_node n (node.Str b) P = with_literal n P
with_node n x P = P

-- with the literals among these nodes, the first of which is the n-th
abbrev pub with_literals : List Placed → ℕ → Parts → Parts
with_literals [] n P = P
with_literals (x ∷ xs) n P = with_literals xs (n + 1) (with_node n x.node P)

-- the variables in the order of their numbers, then the literals in the order of their nodes
abbrev pub parts_of_program : Program → Parts
parts_of_program p = with_literals p.arena.nodes 0 (with_variables p.known.symbols.types p.known.symbols.structs p.variables no_parts)
