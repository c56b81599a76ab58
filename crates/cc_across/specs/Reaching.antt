-- The graph of functions, in which those that are live are reached.
use Rattle.std.specs.Prelude.{ℕ, ◌+◌, ◌≡◌, ◌<◌, ◌↔◌, ◌⊎◌, Bool, true, false, ◌||◌, List, [], ◌∷◌, ◌++◌, Option, Some, None, slice_get, Contains}
use Rattle.cc_arena.specs.declared.arena.Arena.{Arena}
use Rattle.cc_base.specs.declared.reach.Edge.{Edge}
use Rattle.cc_facts.specs.Told.{or_false}
use Rattle.cc_graph.specs.declared.graph.Graph.{Graph}
use Rattle.cc_graph.specs.declared.position.Position.TheVariants.{At}
use Rattle.cc_graph.specs.Points.{number}
use Rattle.cc_program.specs.declared.function.FuncId.{FuncId}
use Rattle.cc_across.specs.declared.owners.Owners.{Owners}
use Rattle.cc_across.specs.Pairs.{Pair, joined}
use Rattle.cc_across.specs.Sites.{functions_of}

abbrev pub the_function : ℕ → FuncId
the_function g = record { 0 = g }

-- each of these functions with the function g
abbrev pub callers_joined : ℕ → List ℕ → ℕ → List Pair → List Pair
callers_joined n [] g pairs = pairs
callers_joined n (f ∷ fs) g pairs = callers_joined n fs g (joined n (Some f) (Some g) pairs)

-- of each of these calls the functions in whose body it stands with the function that it may call
abbrev pub calls_joined : Arena → Owners → ℕ → List Pair → List Pair → List Pair
calls_joined A it n [] pairs = pairs
calls_joined A it n (x ∷ calls) pairs = calls_joined A it n calls (callers_joined n (functions_of A it x.0) x.1 pairs)

-- the root with each of these entries
abbrev pub entries_joined : ℕ → ℕ → List FuncId → List Pair → List Pair
entries_joined n root [] pairs = pairs
entries_joined n root (f ∷ fs) pairs = entries_joined n root fs (joined n (Some root) (Some f.0) pairs)

-- one of these calls stands in the function f, and may call g
abbrev pub MayCallFrom : Arena → Owners → List Pair → ℕ → ℕ → Type 0
MayCallFrom A it calls f g = (s : ℕ) × Contains (functions_of A it s) f × Contains calls (s, g)

-- of the functions below n: f may call g; or f is the root, n itself, and g an entry
abbrev pub IsCallEdge : Arena → Owners → ℕ → List FuncId → List Pair → ℕ → ℕ → Type 0
IsCallEdge A it n entries calls f g = ((f < n) × (g < n) × MayCallFrom A it calls f g) ⊎ ((f ≡ n) × (g < n + 1) × Contains entries (the_function g))

-- all of these, one after the other
abbrev pub call_pairs : Arena → Owners → ℕ → List FuncId → List Pair → List Pair
call_pairs A it n entries calls = entries_joined (n + 1) n entries (calls_joined A it n calls [])

abbrev pub edge_of : Pair → Edge
edge_of x = record { from = x.0; to = x.1 }

abbrev pub live_at : List Bool → ℕ → Bool
live_at live f = or_false (slice_get live f)

-- of the functions below n: one of these entries, or one that one of these calls in a live function may call
pub data IsLiveIn (A : Arena) (it : Owners) (n : ℕ) (entries : List FuncId) (calls : List Pair) : ℕ → Type 0 where
  Begins : {f : ℕ} → f < n → Contains entries (the_function f) → IsLiveIn A it n entries calls f
  Called : {f g : ℕ} → IsLiveIn A it n entries calls f → g < n → MayCallFrom A it calls f g → IsLiveIn A it n entries calls g

abbrev pub AreLive : Arena → Owners → ℕ → List FuncId → List Pair → List Bool → Type 0
AreLive A it n entries calls live = (f : ℕ) → (live_at live f ≡ true) ↔ IsLiveIn A it n entries calls f

-- one of these functions is live
abbrev pub any_live : List Bool → List ℕ → Bool
any_live live [] = false
any_live live (f ∷ fs) = live_at live f || any_live live fs

-- a node stands in a live function
abbrev pub stands_live : Arena → Owners → List Bool → ℕ → Bool
stands_live A it live s = any_live live (functions_of A it s)

abbrev pub kept_if : Bool → Pair → List Pair → List Pair
kept_if true x pairs = pairs ++ x ∷ []
kept_if false x pairs = pairs

-- those of the calls that stand in live functions
abbrev pub live_calls : Arena → Owners → List Bool → List Pair → List Pair → List Pair
live_calls A it live [] pairs = pairs
live_calls A it live (x ∷ calls) pairs = live_calls A it live calls (kept_if (stands_live A it live x.0) x pairs)

abbrev pub if_there : Option ℕ → Bool → Bool
if_there (Some k) b = b
if_there None b = false

-- a node is an evaluated call in a live function
abbrev pub is_live_site : Arena → Graph → Owners → List Bool → ℕ → Bool
is_live_site A G it live s = if_there (number G.rows (At s)) (stands_live A it live s)

abbrev pub IsSiteBelow : Arena → Graph → Owners → List Bool → ℕ → ℕ → Type 0
IsSiteBelow A G it live n s = (s < n) × (is_live_site A G it live s ≡ true)

abbrev pub pushed_if : Bool → ℕ → List ℕ → List ℕ
pushed_if true s sites = sites ++ s ∷ []
pushed_if false s sites = sites
