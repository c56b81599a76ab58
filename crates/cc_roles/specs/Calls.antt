-- Arguments of calls, and whether their values are used.
use Rattle.std.specs.Prelude.{ℕ, zero, suc, Bool, true, false, not, ◌&&◌, ◌||◌, cond, nat_eq, List, [], Option, Some, None, length, slice_get}
use Rattle.cc_arena.specs.Arenas.{node_of, parent_of, stretch}
use Rattle.cc_arena.specs.declared.arena.Arena.{Arena}
use Rattle.cc_arena.specs.declared.node.Node.{Node}
use Rattle.cc_arena.specs.declared.node.Node.TheVariants as node
use Rattle.cc_program.specs.declared.program.Program.{Program}
use Rattle.cc_program.specs.Programs.{or_none}
use Rattle.cc_types.specs.declared.expr_type.ExprType.{ExprType}
use Rattle.cc_types.specs.declared.expr_type.ExprType.TheVariants as expr
use Rattle.cc_types.specs.declared.shape.Shape.{Shape}
use Rattle.cc_types.specs.declared.shape.Shape.TheVariants as shape
use Rattle.cc_types.specs.declared.shape.TypeId.{TypeId}
use Rattle.cc_types.specs.Interning.{shape_of}
use Rattle.cc_roles.specs.declared.calls.Fate.{Fate}
use Rattle.cc_roles.specs.declared.calls.Fate.TheVariants as fates

abbrev pub arguments_of : Arena → Option Node → List ℕ
arguments_of A (Some (node.Call f span)) = stretch A.lists span
arguments_of A n = []

-- the arguments of a call, in order
abbrev pub arguments : Arena → ℕ → List ℕ
arguments A site = arguments_of A (node_of (slice_get A.nodes site))

abbrev pub is_void_shape : Shape → Bool
is_void_shape (shape.Void k) = true
is_void_shape s = false

abbrev pub is_void_type : Program → Option TypeId → Bool
is_void_type p (Some t) = is_void_shape (shape_of p.known.symbols.types t)
is_void_type p None = false

-- the type name names the type void
abbrev pub is_void : Program → ℕ → Bool
is_void p n = is_void_type p (or_none (slice_get p.known.symbols.kinds n))

abbrev pub is_it : Option ℕ → ℕ → Bool
is_it (Some m) n = nat_eq m n
is_it None n = false

-- what becomes of the value of the part `n` of another node
abbrev pub fate : Program → ℕ → Option Node → Fate
fate p n (Some (node.Paren e)) = fates.Handed
fate p n (Some (node.Plain e)) = fates.Dropped
fate p n (Some (node.Comma a b)) = fates.Dropped
fate p n (Some (node.Cast t e)) = cond (is_void p t) fates.Dropped fates.Used
fate p n (Some (node.For first condition step body)) = cond (is_it first n || is_it step n) fates.Dropped fates.Used
fate p n other = fates.Used

abbrev pub used_by : (ℕ → Bool) → ℕ → Fate → Bool
used_by go around fates.Handed = go around
used_by go around fates.Dropped = false
used_by go around fates.Used = true

abbrev pub used_around : Program → (ℕ → Bool) → ℕ → Option ℕ → Bool
used_around p go n (Some around) = used_by go around (fate p n (node_of (slice_get p.arena.nodes around)))
used_around p go n None = true

-- the value is used, where it is handed on at most this often
abbrev pub used_within : Program → (count : ℕ) → ℕ → Bool
used_within p zero n = true
used_within p (suc count) n = used_around p (used_within p count) n (parent_of (slice_get p.arena.nodes n))

-- the value of an expression is used, by the nodes around it
abbrev pub is_taken : Program → ℕ → Bool
is_taken p n = used_within p (length p.arena.nodes) n

abbrev pub is_void_expr : Option ExprType → Bool
is_void_expr (Some (expr.Plain s)) = is_void_shape s
is_void_expr (Some (expr.Address s)) = false
is_void_expr None = false

-- the call has no value: its function's result is void
abbrev pub has_none : Program → ℕ → Bool
has_none p site = is_void_expr (or_none (slice_get p.known.found.types site))

-- The call has a value that is used. It is not used where the call, parentheses aside, is a whole expression statement, a
-- whole first or third clause of a `for` or an operand of the comma there, or the operand of a cast to void.
abbrev pub is_used : Program → ℕ → Bool
is_used p site = not (has_none p site) && is_taken p site
