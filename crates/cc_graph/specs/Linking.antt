-- The points that follow each point, with steps added one after the other.
use Rattle.std.specs.Prelude.{ℕ, ◌+◌, ◌<◌, ◌≡◌, List, [], ◌∷◌, ◌++◌, Option, Some, None, slice_index_or, slice_set, length}
use Rattle.std.specs.List.{Contains}
use Rattle.cc_arena.specs.declared.arena.Arena.{Arena}
use Rattle.cc_arena.specs.declared.arena.Placed.{Placed}
use Rattle.cc_graph.specs.declared.position.Row.{Row}
use Rattle.cc_graph.specs.declared.scope.Scope.{Scope}
use Rattle.cc_graph.specs.Order.{IsAscending}
use Rattle.cc_graph.specs.Points.{number, source}
use Rattle.cc_graph.specs.Scopes.{scope_at}
use Rattle.cc_graph.specs.Succession.{Step, says, jump, Follows}

-- by the number of a point, the numbers of those that follow it
abbrev pub Next : Type 0
Next = List (List ℕ)

abbrev pub row_of : Next → ℕ → List ℕ
row_of next k = slice_index_or next k []

abbrev pub with_step : ℕ → ℕ → Next → Next
with_step k j next = slice_set next k (row_of next k ++ j ∷ [])

-- with a step between points that are both there
abbrev pub added : Option ℕ → Option ℕ → Next → Next
added (Some k) (Some j) next = with_step k j next
added (Some k) None next = next
added None to next = next

-- with a step that a node says, unless it begins after a jump
abbrev pub linked : List Row → Step → Next → Next
linked rows s next = added (source rows s.0) (number rows s.1) next

-- with a step that the word of a jump says
abbrev pub told : List Row → Step → Next → Next
told rows s next = added (number rows s.0) (number rows s.1) next

abbrev pub all_linked : List Row → List Step → Next → Next
all_linked rows [] next = next
all_linked rows (s ∷ steps) next = all_linked rows steps (linked rows s next)

abbrev pub all_told : List Row → List Step → Next → Next
all_told rows [] next = next
all_told rows (s ∷ steps) next = all_told rows steps (told rows s next)

-- with what the node n says, which is x
abbrev pub node_linked : Arena → List Row → List Scope → ℕ → Placed → Next → Next
node_linked A rows scopes n x next = all_told rows (jump (scope_at scopes x.parent) n x.node) (all_linked rows (says A rows n x.node) next)

-- with what these nodes say, from the n-th on
abbrev pub lowered : Arena → List Row → List Scope → List Placed → ℕ → Next → Next
lowered A rows scopes [] n next = next
lowered A rows scopes (x ∷ xs) n next = lowered A rows scopes xs (n + 1) (node_linked A rows scopes n x next)

-- The lists have, for each point, exactly the points that follow it, in ascending order.
pub record IsSuccession (A : Arena) (rows : List Row) (scopes : List Scope) (points : ℕ) (next : Next) : Type 0 where
  pub long : length next ≡ points
  pub ascends : (k : ℕ) → k < points → IsAscending (row_of next k)
  pub only : (k j : ℕ) → k < points → Contains (row_of next k) j → Follows A rows scopes k j
  pub each : (k j : ℕ) → k < points → Follows A rows scopes k j → Contains (row_of next k) j
