-- What `break`, `continue` and `return` lead to.
use Rattle.std.specs.Prelude.{ℕ, List, [], Option, Some, None}
use Rattle.cc_arena.specs.declared.arena.Arena.{Arena}
use Rattle.cc_arena.specs.declared.arena.Placed.{Placed}
use Rattle.cc_arena.specs.declared.node.Node.{Node}
use Rattle.cc_arena.specs.declared.node.Node.TheVariants as node
use Rattle.cc_arena_rules.specs.Inherited.{answer_at, inherited_from}
use Rattle.cc_graph.specs.declared.scope.Scope.{Scope}

-- the first of both that is there
abbrev pub or : Option ℕ → ℕ → ℕ
or (Some a) b = a
or None b = b

abbrev pub scope_or_none : Option Scope → Scope
scope_or_none (Some s) = s
scope_or_none None = record { leaves = None; goes_on = None; function = None }

-- What the node n hands to its parts, where it has `own` itself. A `continue` goes on before the condition of `while` and `do`;
-- of a `for` before the third clause, without one before the condition, without that before the body.
abbrev pub handed : ℕ → Node → Scope → Scope
handed n (node.Definition d block) own = record { leaves = None; goes_on = None; function = Some n }
handed n (node.While test body) own = record { leaves = Some n; goes_on = Some test; function = own.function }
handed n (node.Do body test) own = record { leaves = Some n; goes_on = Some test; function = own.function }
handed n (node.For start test each body) own = record { leaves = Some n; goes_on = Some (or each (or test body)); function = own.function }
handed n (node.Switch e block) own = record { leaves = Some n; goes_on = own.goes_on; function = own.function }
handed n what own = own

abbrev pub scope_step : ℕ → Placed → Option Scope → Scope
scope_step n x own = handed n x.node (scope_or_none own)

-- what the parts of each node have
abbrev pub scopes_of : Arena → List Scope
scopes_of A = inherited_from scope_step 0 A.nodes 0 []

-- what the parts of the node at `up` have
abbrev pub scope_at : List Scope → ℕ → Scope
scope_at scopes up = scope_or_none (answer_at scopes 0 up)
