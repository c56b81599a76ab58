-- The control points, and their numbers.
use Rattle.std.specs.Prelude.{ℕ, ◌+◌, ◌≡◌, Bool, true, false, if◌then◌else◌, List, [], ◌∷◌, ◌++◌, Option, Some, None, slice_get}
use Rattle.cc_arena.specs.declared.arena.Placed.{Placed}
use Rattle.cc_arena.specs.declared.node.Node.{Node}
use Rattle.cc_arena.specs.declared.node.Node.TheVariants as node
use Rattle.cc_program.specs.declared.program.Program.{Program}
use Rattle.cc_graph.specs.Evaluated.{standings}
use Rattle.cc_graph.specs.declared.position.Position.{Position}
use Rattle.cc_graph.specs.declared.position.Position.TheVariants.{Root, Entry, Exit, Before, At, After}
use Rattle.cc_graph.specs.declared.position.Row.{Row}
use Rattle.cc_graph.specs.declared.naming.Rows.{Rows}
use Rattle.cc_graph.specs.declared.standing.Standing.{Standing}
use Rattle.cc_graph.specs.declared.standing.Standing.TheVariants.{Unevaluated, Declaring, Evaluated, Defining}

-- a value where the node is evaluated, and one where it defines a function
abbrev pub if_evaluated : Standing → Option ℕ → Option ℕ
if_evaluated Evaluated k = k
if_evaluated _ k = None

abbrev pub if_defining : Standing → Option ℕ → Option ℕ
if_defining Defining k = k
if_defining _ k = None

abbrev pub entry : Option Row → Option ℕ
entry (Some r) = if_defining r.standing (Some r.first)
entry None = None

abbrev pub exit : Option Row → Option ℕ
exit (Some r) = if_defining r.standing (Some r.last)
exit None = None

abbrev pub before : Option Row → Option ℕ
before (Some r) = if_evaluated r.standing (Some r.first)
before None = None

abbrev pub at : Option Row → Option ℕ
at (Some r) = if_evaluated r.standing r.at
at None = None

abbrev pub after : Option Row → Option ℕ
after (Some r) = if_evaluated r.standing (Some r.last)
after None = None

abbrev pub plain_after : Option Row → Option ℕ
plain_after (Some r) = if r.jumps then None else after (Some r)
plain_after None = None

-- the number of a point, where it is there
abbrev pub number : List Row → Position → Option ℕ
number rows Root = Some 0
number rows (Entry n) = entry (slice_get rows n)
number rows (Exit n) = exit (slice_get rows n)
number rows (Before n) = before (slice_get rows n)
number rows (At n) = at (slice_get rows n)
number rows (After n) = after (slice_get rows n)

-- the same, but not of the point after a node where a word says where it leads
abbrev pub source : List Row → Position → Option ℕ
source rows (After n) = plain_after (slice_get rows n)
source rows p = number rows p

abbrev pub is_there : Option ℕ → Bool
is_there (Some k) = true
is_there None = false

abbrev pub is_evaluated : List Row → ℕ → Bool
is_evaluated rows n = is_there (before (slice_get rows n))

abbrev pub is_call : Node → Bool
is_call (node.Call f es) = true
is_call _ = false

-- a word says where its after leads
abbrev pub jumps : Node → Bool
jumps node.Break = true
jumps node.Continue = true
jumps (node.Return e) = true
jumps _ = false

-- it has a point at it: an evaluated call
abbrev pub has_at : Standing → Node → Bool
has_at Evaluated what = is_call what
has_at _ what = false

abbrev pub row_with : Standing → Bool → Bool → ℕ → Row
row_with own jumps has_at k = record {
  standing = own;
  jumps = jumps;
  first = k;
  at = if has_at then Some (k + 1) else None;
  last = if has_at then k + 2 else k + 1;
}

-- the row of a node that stands so, if its first point is k
abbrev pub row : Node → Standing → ℕ → Row
row what own k = row_with own (jumps what) (has_at own what) k

-- the number after the points of a node, of which k would be the first
abbrev pub next_point : Standing → Row → ℕ → ℕ
next_point Unevaluated r k = k
next_point Declaring r k = k
next_point Evaluated r k = r.last + 1
next_point Defining r k = r.last + 1

abbrev pub standing_or : Option Standing → Standing
standing_or (Some s) = s
standing_or None = Unevaluated

-- the rows of the nodes from the n-th on, after those that are there, where the next point is k
abbrev pub numbered : List Standing → List Placed → ℕ → List Row → ℕ → Rows
numbered standings [] n rows k = record { rows = rows; points = k }
numbered standings (x ∷ xs) n rows k =
    let own = row x.node (standing_or (slice_get standings n)) k in
    numbered standings xs (n + 1) (rows ++ own ∷ []) (next_point own.standing own k)

-- the rows of all nodes, and how many points there are; the first point is the root
abbrev pub all_rows : Program → Rows
all_rows p = numbered (standings p) p.arena.nodes 0 [] 1

abbrev pub rows_of : Program → List Row
rows_of p = (all_rows p).rows

-- how many control points a program has
abbrev pub points_in : Program → ℕ
points_in p = (all_rows p).points

-- the points of the node n, with this row, in order
abbrev pub positions_at : Option ℕ → ℕ → List Position
positions_at (Some k) n = Before n ∷ At n ∷ After n ∷ []
positions_at None n = Before n ∷ After n ∷ []

abbrev pub positions_in : Standing → Option ℕ → ℕ → List Position
positions_in Unevaluated middle n = []
positions_in Declaring middle n = []
positions_in Evaluated middle n = positions_at middle n
positions_in Defining middle n = Entry n ∷ Exit n ∷ []

-- the points of the nodes with these rows, from the n-th on, behind those that are there
abbrev pub positions_from : List Row → ℕ → List Position → List Position
positions_from [] n done = done
positions_from (r ∷ rows) n done = positions_from rows (n + 1) (done ++ positions_in r.standing r.at n)

-- all points, in the order of their numbers
abbrev pub positions_of : List Row → List Position
positions_of rows = positions_from rows 0 (Root ∷ [])

-- each point stands at its number, and nothing else does
pub record IsNaming (rows : List Row) (positions : List Position) : Type 0 where
  pub told : (p : Position) (k : ℕ) → number rows p ≡ Some k → slice_get positions k ≡ Some p
  pub tells : (p : Position) (k : ℕ) → slice_get positions k ≡ Some p → number rows p ≡ Some k
