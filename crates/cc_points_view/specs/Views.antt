-- The view of a program.
use Rattle.std.specs.Prelude.{ℕ, ◌+◌, ◌-◌, ◌^◌, min, Bool, true, false, not, ◌&&◌, nat_lt, nat_le, cond, if◌then◌else◌, List, [], ◌∷◌, ◌++◌, length, slice_range, Option, Some, None, slice_get}
use Rattle.cc_arena.specs.declared.arena.Placed.{Placed}
use Rattle.cc_arena.specs.declared.node.Node.{Node}
use Rattle.cc_arena.specs.declared.node.Node.TheVariants as node
use Rattle.cc_arena.specs.declared.node.Span.{Span}
use Rattle.cc_arena_rules.specs.declared.around.Around.{Around}
use Rattle.cc_arena_rules.specs.Surroundings.{surroundings}
use Rattle.cc_parts.specs.declared.parts.Object.{Object}
use Rattle.cc_parts.specs.declared.parts.Parts.{Parts}
use Rattle.cc_parts.specs.Objects.{parts_of_program}
use Rattle.cc_program.specs.declared.program.Program.{Program}
use Rattle.cc_points_base.specs.declared.view.Class.TheVariants as class
use Rattle.cc_points_base.specs.declared.view.What.{What}
use Rattle.cc_points_base.specs.declared.view.What.TheVariants as what
use Rattle.cc_points_base.specs.declared.view.Seen.{Seen}
use Rattle.cc_points_base.specs.declared.view.View.{View}
use Rattle.cc_points_view.specs.declared.functions.Tables.{Tables}
use Rattle.cc_points_view.specs.declared.standing.Standing.{Standing}
use Rattle.cc_points_view.specs.Functions.{bodies_of, with_functions}
use Rattle.cc_points_view.specs.Initialisers.{with_initialisers}
use Rattle.cc_points_view.specs.Paths.{with_paths}
use Rattle.cc_points_view.specs.Seeing as seeing
use Rattle.cc_points_view.specs.Standings.{standings_from}

abbrev pub first_or_none : Option Object → ℕ
first_or_none (Some o) = o.first
first_or_none None = 4294967295

-- the whole object of the string literal that is the object of this number
abbrev pub literal_at : Parts → ℕ → ℕ
literal_at parts object = first_or_none (slice_get parts.objects object)

-- the number of the object that comes after a node
abbrev pub after : Node → ℕ → ℕ
after (node.Str b) object = min (object + 1) (2 ^ 32 - 1)
after x object = object

abbrev pub all_below : ℕ → List ℕ → Bool
all_below count [] = true
all_below count (n ∷ ns) = nat_lt n count && all_below count ns

-- the list that stands at a span; none where there is no such one
abbrev pub stretch : List ℕ → Span → List ℕ
stretch lists s = cond (nat_le s.start s.«end» && nat_le s.«end» (length lists)) (slice_range lists s.start s.«end») []

-- whether the parts of an occurrence are occurrences, and its function is one
abbrev pub is_within : ℕ → ℕ → List ℕ → What → Bool
is_within count functions lists (what.Paren e) = nat_lt e count
is_within count functions lists (what.Address e) = nat_lt e count
is_within count functions lists (what.Deref e) = nat_lt e count
is_within count functions lists (what.Index e) = nat_lt e count
is_within count functions lists (what.Offset e) = nat_lt e count
is_within count functions lists (what.Comma e) = nat_lt e count
is_within count functions lists (what.Member e m) = nat_lt e count
is_within count functions lists (what.Arrow e m) = nat_lt e count
is_within count functions lists (what.Assign a b) = nat_lt a count && nat_lt b count
is_within count functions lists (what.Cond a b) = nat_lt a count && nat_lt b count
is_within count functions lists (what.Call f args) = nat_lt f count && all_below count (stretch lists args)
is_within count functions lists (what.Return i e) = nat_lt i functions && nat_lt e count
is_within count functions lists (what.Init q e) = false
is_within count functions lists (what.Name q) = true
is_within count functions lists (what.Designator g) = true
is_within count functions lists what.Other = true

abbrev pub unseen : Seen
unseen = record { what = what.Other; class = class.Other; used = false }

-- an occurrence whose parts aren't all there is one of which no rule speaks
abbrev pub guarded : ℕ → ℕ → List ℕ → Seen → Seen
guarded count functions lists s = if is_within count functions lists s.what then s else unseen

abbrev pub is_value : Option Around → Bool
is_value (Some around) = around.is_value
is_value None = false

-- what the rules see of the node n, where `object` is the number of the next literal
abbrev pub seen_at : Program → Parts → Tables → List Around → ℕ → ℕ → ℕ → ℕ → Node → Standing → Seen
seen_at p parts T around count functions n object x standing = guarded count functions T.lists
    (seeing.seen_of parts standing (is_value (slice_get around n)) (seeing.what_of p parts (literal_at parts object) n x standing.function) (seeing.class_of T.paths (seeing.type_of p n)))

abbrev pub seen_if : Program → Parts → Tables → List Around → ℕ → ℕ → ℕ → ℕ → Node → Option Standing → Seen
seen_if p parts T around count functions n object x (Some standing) = seen_at p parts T around count functions n object x standing
seen_if p parts T around count functions n object x None = unseen

-- with what the rules see of these nodes, the first of which is the n-th
abbrev pub with_seen : Program → Parts → Tables → List Around → ℕ → ℕ → List Standing → List Placed → ℕ → ℕ → List Seen → List Seen
with_seen p parts T around count functions standings [] n object nodes = nodes
with_seen p parts T around count functions standings (x ∷ xs) n object nodes =
    with_seen p parts T around count functions standings xs (n + 1) (after x.node object) (nodes ++ seen_if p parts T around count functions n object x.node (slice_get standings n) ∷ [])

abbrev pub copied : List ℕ → List ℕ → List ℕ
copied [] lists = lists
copied (x ∷ xs) lists = copied xs (lists ++ x ∷ [])

abbrev pub no_tables : List ℕ → Tables
no_tables lists = record { lists = lists; functions = []; paths = [] }

-- the lists, the functions with their formals, and the pointers of each struct type
abbrev pub tables_of : Program → Parts → Tables
tables_of p parts = with_paths parts.parts (with_functions parts p.functions (no_tables (copied p.arena.lists [])))

abbrev pub all_standings : Program → Parts → List Standing
all_standings p parts = standings_from p parts (bodies_of p.functions (length p.arena.nodes)) p.arena.nodes 0 []

abbrev pub all_around : Program → List Around
all_around p = surroundings p.arena p.known.symbols p.known.found 0 (length p.arena.nodes)

-- what the rules see of all nodes; the literals come after the variables among the objects
abbrev pub all_seen : Program → Parts → Tables → List Seen
all_seen p parts T = with_seen p parts T (all_around p) (length p.arena.nodes) (length p.functions) (all_standings p parts) p.arena.nodes 0 (length p.variables) []

-- and after them the initialisers
abbrev pub nodes_of : Program → Parts → Tables → List Seen
nodes_of p parts T = with_initialisers parts (all_standings p parts) p.arena.nodes 0 (all_seen p parts T)

abbrev pub view_with : Program → Parts → Tables → View
view_with p parts T = record { nodes = nodes_of p parts T; lists = T.lists; parts = parts; functions = T.functions }

-- what the points-to rules see of a program
abbrev pub view_of : Program → View
view_of p = view_with p (parts_of_program p) (tables_of p (parts_of_program p))
