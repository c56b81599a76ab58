-- What arguments and returns hand over. They share one list of the reads of variables that they name.
use Rattle.std.specs.Prelude.{ℕ, ◌+◌, Bool, true, false, if◌then◌else◌, List, [], ◌∷◌, ◌++◌, Option, Some, None, length}
use Rattle.cc_arena.specs.declared.arena.Placed.{Placed}
use Rattle.cc_arena.specs.declared.node.Node.{Node}
use Rattle.cc_arena.specs.declared.node.Node.TheVariants as node
use Rattle.cc_graph.specs.Points.{number}
use Rattle.cc_graph.specs.declared.graph.Graph.{Graph}
use Rattle.cc_graph.specs.declared.position.Position.TheVariants.{At, After}
use Rattle.cc_listed.specs.declared.calls.Argument.{Argument}
use Rattle.cc_listed.specs.declared.calls.Returned.{Returned}
use Rattle.cc_parts.specs.declared.parts.Parts.{Parts}
use Rattle.cc_program.specs.declared.program.Program.{Program}
use Rattle.cc_roles.specs.Calls.{arguments}
use Rattle.cc_roles.specs.Names.{named, returned}
use Rattle.cc_handing.specs.Reads.{source_of}
use Rattle.cc_handing.specs.Owning.{definitions, functions, functions_around}
use Rattle.cc_handing.specs.declared.handed.Handed.{Handed}
use Rattle.cc_handing.specs.declared.read.Source.{Source}
use Rattle.cc_handing.specs.declared.read.Source.TheVariants as source

abbrev pub nothing : Handed
nothing = record { arguments = []; returns = []; named = [] }

abbrev pub argument : ℕ → ℕ → ℕ → ℕ → Option ℕ → Argument
argument site number at occurrence named = record { site = site; number = number; at = at; occurrence = occurrence; named = named }

-- With an argument. Where it is a name, the read of the variable comes last among the named ones, and the argument has its
-- number.
abbrev pub with_argument : ℕ → ℕ → ℕ → ℕ → Source → Handed → Handed
with_argument site at k e source.Itself H = record H { arguments = H.arguments ++ argument site k at e None ∷ [] }
with_argument site at k e (source.Read r) H = record H { arguments = H.arguments ++ argument site k at e (Some (length H.named)) ∷ []; named = H.named ++ r ∷ [] }
with_argument site at k e source.Missing H = H

-- with these arguments of a site, the first of which is the i-th, counted from 0
abbrev pub with_arguments : Program → Graph → Parts → ℕ → ℕ → List ℕ → ℕ → Handed → Handed
with_arguments p g parts site at [] i H = H
with_arguments p g parts site at (e ∷ es) i H = with_arguments p g parts site at es (i + 1) (with_argument site at (i + 1) e (source_of p g parts (named p e)) H)

-- with the arguments of a site, if its point is there
abbrev pub with_site : Program → Graph → Parts → ℕ → Option ℕ → Handed → Handed
with_site p g parts site (Some at) H = with_arguments p g parts site at (arguments p.arena site) 0 H
with_site p g parts site None H = H

-- with the arguments of these sites
abbrev pub with_sites : Program → Graph → Parts → List ℕ → Handed → Handed
with_sites p g parts [] H = H
with_sites p g parts (s ∷ ss) H = with_sites p g parts ss (with_site p g parts s (number g.rows (At s)) H)

abbrev pub a_return : ℕ → ℕ → ℕ → Option ℕ → Returned
a_return callee statement after named = record { callee = callee; statement = statement; after = after; named = named }

-- With a return of a function. Where its expression is a name, the read of the variable comes last among the named ones.
abbrev pub with_return : ℕ → ℕ → ℕ → Source → Handed → Handed
with_return callee n after source.Itself H = record H { returns = H.returns ++ a_return callee n after None ∷ [] }
with_return callee n after (source.Read r) H = record H { returns = H.returns ++ a_return callee n after (Some (length H.named)) ∷ []; named = H.named ++ r ∷ [] }
with_return callee n after source.Missing H = H

-- a return with an expression
abbrev pub is_return : Node → Bool
is_return (node.Return (Some e)) = true
is_return other = false

-- with a return of each of these functions
abbrev pub with_callees : ℕ → ℕ → Source → List ℕ → Handed → Handed
with_callees n after s [] H = H
with_callees n after s (callee ∷ callees) H = with_callees n after s callees (with_return callee n after s H)

abbrev pub with_return_after : Program → Graph → Parts → List ℕ → ℕ → Option ℕ → Handed → Handed
with_return_after p g parts callees n (Some after) H = with_callees n after (source_of p g parts (returned p n)) callees H
with_return_after p g parts callees n None H = H

-- with the node n, which is x, if it is a return with an expression and its point is there
abbrev pub with_node : Program → Graph → Parts → List ℕ → ℕ → Node → Handed → Handed
with_node p g parts callees n x H = if is_return x then with_return_after p g parts callees n (number g.rows (After n)) H else H

-- with the returns among these nodes, the first of which is the n-th; the tables tell the functions that they stand in
abbrev pub with_nodes : Program → Graph → Parts → List (Option ℕ) → List (List ℕ) → List Placed → ℕ → Handed → Handed
with_nodes p g parts ds rows [] n H = H
with_nodes p g parts ds rows (x ∷ xs) n H = with_nodes p g parts ds rows xs (n + 1) (with_node p g parts (functions_around ds rows x.parent) n x.node H)

-- with all returns of functions
abbrev pub with_returns : Program → Graph → Parts → Handed → Handed
with_returns p g parts H = with_nodes p g parts (definitions p) (functions p g) p.arena.nodes 0 H

-- the arguments of these sites and the returns of all functions, in the order of their nodes
abbrev pub handed : Program → Graph → Parts → List ℕ → Handed
handed p g parts sites = with_returns p g parts (with_sites p g parts sites nothing)
