-- Expressions that are names of variables, parentheses aside.
use Rattle.std.specs.Prelude.{ℕ, zero, suc, Bool, true, false, cond, Option, Some, None, length, slice_get}
use Rattle.cc_arena.specs.Arenas.{node_of}
use Rattle.cc_arena.specs.declared.arena.Arena.{Arena}
use Rattle.cc_arena.specs.declared.node.Node.{Node}
use Rattle.cc_arena.specs.declared.node.Node.TheVariants as node
use Rattle.cc_program.specs.declared.program.Program.{Program}
use Rattle.cc_program.specs.declared.program.Referent.{Referent}
use Rattle.cc_program.specs.declared.program.Referent.TheVariants as referent
use Rattle.cc_program.specs.declared.variable.VarId.{VarId}
use Rattle.cc_program.specs.declared.variable.Variable.{Variable}
use Rattle.cc_program.specs.Programs.{names}
use Rattle.cc_types.specs.declared.shape.Shape.{Shape}
use Rattle.cc_types.specs.declared.shape.Shape.TheVariants as shape
use Rattle.cc_types.specs.declared.shape.TypeId.{TypeId}
use Rattle.cc_types.specs.Interning.{shape_of}

abbrev pub inside_of : Option Node → Option ℕ
inside_of (Some (node.Paren e)) = Some e
inside_of n = None

-- what stands in the parentheses of a node, if it is parentheses
abbrev pub inside : Arena → ℕ → Option ℕ
inside A n = inside_of (node_of (slice_get A.nodes n))

-- what a step further in gives, if there is one
abbrev pub further : (ℕ → ℕ) → ℕ → Option ℕ → ℕ
further go n (Some e) = go e
further go n None = n

-- the node without the parentheses around it, of which there are at most this many
abbrev pub bare_within : Arena → (count : ℕ) → ℕ → ℕ
bare_within A zero n = n
bare_within A (suc count) n = further (bare_within A count) n (inside A n)

-- the node, parentheses aside; there are fewer of them than nodes
abbrev pub bare : Arena → ℕ → ℕ
bare A n = bare_within A (length A.nodes) n

abbrev pub is_scalar_shape : Shape → Bool
is_scalar_shape (shape.Integer k kind) = true
is_scalar_shape (shape.Pointer k t) = true
is_scalar_shape s = false

-- objects of the type are scalars: integers or pointers
abbrev pub is_scalar : Program → TypeId → Bool
is_scalar p t = is_scalar_shape (shape_of p.known.symbols.types t)

abbrev pub if_scalar : Program → Option Variable → Bool
if_scalar p (Some v) = is_scalar p v.ty
if_scalar p None = false

abbrev pub is_scalar_variable : Program → VarId → Bool
is_scalar_variable p v = if_scalar p (slice_get p.variables v.0)

abbrev pub names_scalar : Program → Option Referent → Bool
names_scalar p (Some (referent.Variable v)) = is_scalar_variable p v
names_scalar p r = false

abbrev pub is_name_node : Program → ℕ → Option Node → Bool
is_name_node p n (Some node.Name) = names_scalar p (names p n)
is_name_node p n other = false

-- the node is the name of a variable of scalar type, as an expression
abbrev pub is_name : Program → ℕ → Bool
is_name p n = is_name_node p n (node_of (slice_get p.arena.nodes n))

-- the name of a variable of scalar type that an expression is, parentheses aside
abbrev pub named : Program → ℕ → Option ℕ
named p n = cond (is_name p (bare p.arena n)) (Some (bare p.arena n)) None

abbrev pub returned_by : Program → Option Node → Option ℕ
returned_by p (Some (node.Return (Some value))) = named p value
returned_by p n = None

-- the name of a variable of scalar type whose value a `return` statement gives, parentheses aside
abbrev pub returned : Program → ℕ → Option ℕ
returned p n = returned_by p (node_of (slice_get p.arena.nodes n))
