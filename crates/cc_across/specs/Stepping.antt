-- The steps over calls and returns, one after the other.
use Rattle.std.specs.Prelude.{ℕ, ◌+◌, Bool, true, false, if◌then◌else◌, List, [], ◌∷◌, Option, Some, None, slice_get}
use Rattle.cc_arena.specs.declared.arena.Placed.{Placed}
use Rattle.cc_arena.specs.declared.node.Node.{Node}
use Rattle.cc_arena.specs.declared.node.Node.TheVariants as node
use Rattle.cc_arena_rules.specs.Looks.{inside}
use Rattle.cc_graph.specs.declared.graph.Graph.{Graph}
use Rattle.cc_graph.specs.declared.position.Position.{Position}
use Rattle.cc_graph.specs.declared.position.Position.TheVariants.{At, After}
use Rattle.cc_graph.specs.Graphs.{entry_of, exit_of}
use Rattle.cc_graph.specs.Points.{number}
use Rattle.cc_program.specs.Programs.{names}
use Rattle.cc_program.specs.declared.function.Function.{Function}
use Rattle.cc_program.specs.declared.function.FuncId.{FuncId}
use Rattle.cc_program.specs.declared.function.FunctionKind.{FunctionKind}
use Rattle.cc_program.specs.declared.function.FunctionKind.TheVariants as kinds
use Rattle.cc_program.specs.declared.program.Program.{Program}
use Rattle.cc_program.specs.declared.program.Referent.{Referent}
use Rattle.cc_program.specs.declared.program.Referent.TheVariants as referent
use Rattle.cc_across.specs.declared.calls.Calls.{Calls}
use Rattle.cc_across.specs.Calling.{callees_of}
use Rattle.cc_across.specs.Pairs.{Pair, joined}
use Rattle.cc_across.specs.Reaching.{the_function}

-- the root to the entry of each of these functions, and its exit to the root
abbrev pub entry_steps : Graph → List FuncId → List Pair → List Pair
entry_steps G [] pairs = pairs
entry_steps G (f ∷ fs) pairs = entry_steps G fs (joined G.points (exit_of G f) (Some 0) (joined G.points (Some 0) (entry_of G f) pairs))

-- the site s to the entry of each of these functions, and its exit to after s
abbrev pub callee_steps : Graph → ℕ → List ℕ → List Pair → List Pair
callee_steps G s [] pairs = pairs
callee_steps G s (g ∷ gs) pairs = callee_steps G s gs
    (joined G.points (exit_of G (the_function g)) (number G.rows (After s)) (joined G.points (number G.rows (At s)) (entry_of G (the_function g)) pairs))

abbrev pub site_steps : Graph → Calls → List ℕ → List Pair → List Pair
site_steps G C [] pairs = pairs
site_steps G C (s ∷ sites) pairs = site_steps G C sites (callee_steps G s (callees_of C s) pairs)

abbrev pub is_environment_kind : FunctionKind → Bool
is_environment_kind kinds.Environment = true
is_environment_kind kinds.Defined = false

abbrev pub is_environment_function : Option Function → Bool
is_environment_function (Some f) = is_environment_kind f.kind
is_environment_function None = false

-- what a node names is a function of the environment
abbrev pub is_of_environment : Program → Option Referent → Bool
is_of_environment P (Some (referent.Function g)) = is_environment_function (slice_get P.functions g.0)
is_of_environment P what = false

-- a call whose designator, parentheses aside, is the name of a function of the environment
abbrev pub is_asked : Program → Node → Bool
is_asked P (node.Call f es) = is_of_environment P (names P (inside P.arena f))
is_asked P what = false

abbrev pub asked_step : Graph → Bool → ℕ → List Pair → List Pair
asked_step G true s pairs = joined G.points (number G.rows (At s)) (number G.rows (After s)) pairs
asked_step G false s pairs = pairs

-- at each call of a function of the environment to after it, among these nodes, from the n-th on
abbrev pub asked_steps : Program → Graph → List Placed → ℕ → List Pair → List Pair
asked_steps P G [] n pairs = pairs
asked_steps P G (x ∷ xs) n pairs = asked_steps P G xs (n + 1) (asked_step G (is_asked P x.node) n pairs)

abbrev pub is_at : Option Position → Bool
is_at (Some (At s)) = true
is_at p = false

-- the point p to each of these
abbrev pub row_steps : ℕ → ℕ → List ℕ → List Pair → List Pair
row_steps n p [] pairs = pairs
row_steps n p (q ∷ qs) pairs = row_steps n p qs (joined n (Some p) (Some q) pairs)

-- the steps within functions from a point, but for one at a call
abbrev pub point_steps : Graph → ℕ → List ℕ → List Pair → List Pair
point_steps G p row pairs = if is_at (slice_get G.positions p) then pairs else row_steps G.points p row pairs

-- those from the points from p on, to which these rows lead
abbrev pub inner_steps : Graph → List (List ℕ) → ℕ → List Pair → List Pair
inner_steps G [] p pairs = pairs
inner_steps G (row ∷ rows) p pairs = inner_steps G rows (p + 1) (point_steps G p row pairs)

-- all steps, by the tables
abbrev pub all_steps : Program → Graph → Calls → List Pair
all_steps P G C = inner_steps G G.next 0 (asked_steps P G P.arena.nodes 0 (site_steps G C C.sites.items (entry_steps G P.entries [])))
