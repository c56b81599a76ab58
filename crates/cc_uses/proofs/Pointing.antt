-- The points of accesses are points of the graph.
use Rattle.std.proofs.Common.{◌≡◌, ℕ, ◌<◌, inl, inr, Bool, true, false, if◌then◌else◌, List, length, Option, Some, None}
use Rattle.std.specs.Prelude.{slice_get, Contains, ◌↔◌}
use Rattle.std.proofs.lemmas.Option.{slice_get_within}
use Rattle.cc_arena.specs.Arenas.{node_of}
use Rattle.cc_facts.specs.declared.facts.Facts.{Facts}
use Rattle.cc_graph.specs.declared.graph.Graph.{Graph}
use Rattle.cc_graph.specs.declared.position.Position.{Position}
use Rattle.cc_graph.specs.declared.position.Position.TheVariants.{Root, Entry, After}
use Rattle.cc_graph.specs.Graphs.{defined_by, entry_by}
use Rattle.cc_graph.specs.Points.{number, IsNaming}
use Rattle.cc_listed.specs.declared.table.Access.{Access}
use Rattle.cc_parts.specs.declared.parts.Parts.{Parts}
use Rattle.cc_program.specs.declared.program.Program.{Program}
use Rattle.cc_program.specs.declared.variable.Variable.{Variable}
use Rattle.cc_symbols.specs.declared.declared.Life.{Life}
use Rattle.cc_symbols.specs.declared.declared.Life.TheVariants as life
use Rattle.cc_uses.specs.Writing.{after}
use Rattle.cc_uses.specs.Giving.{is_initialised, variable_start, start_in}
use Rattle.cc_uses.specs.Uses.{IsWrite, IsRead, IsGiven, IsInGraph}

-- the number of a moment
abbrev pub IsPoint : Graph → ℕ → Type 0
IsPoint g k = (at : Position) × (number g.rows at ≡ Some k)

within : (g : Graph) (k : ℕ) → IsNaming g.rows g.positions → IsPoint g k → k < length g.positions
within g k naming (at, is) = slice_get_within g.positions k at (naming.told at k is)

chosen : (b : Bool) (o : Option ℕ) (k : ℕ) → (if b then o else None) ≡ Some k → o ≡ Some k
chosen true o k is = is
chosen false o k is = absurd (let e = is in cc)

life_point : (p : Program) (g : Graph) (l : Life) (n k : ℕ) → variable_start p g l n ≡ Some k → IsPoint g k
life_point p g life.Static n k is = (Root, is)
life_point p g life.Local n k is = (After n, chosen (is_initialised (node_of (slice_get p.arena.nodes n))) (after g n) k is)
life_point p g life.Formal n k is = absurd (let e = is in cc)
life_point p g life.Parameter n k is = absurd (let e = is in cc)

start_point : (p : Program) (g : Graph) (v : Option Variable) (n k : ℕ) → start_in p g v n ≡ Some k → IsPoint g k
start_point p g (Some v) n k is = life_point p g v.life n k is
start_point p g None n k is = (Root, is)

entry_point : (g : Graph) (d : Option ℕ) (k : ℕ) → entry_by g.rows d ≡ Some k → IsPoint g k
entry_point g (Some d) k is = (Entry d, is)
entry_point g None k is = absurd (let e = is in cc)

pub write_point : (p : Program) (g : Graph) (F : Facts) (a : Access) → IsWrite p g F a → IsPoint g a.point
write_point p g F a w = (After w.node, w.point)

pub read_point : (p : Program) (g : Graph) (F : Facts) (a : Access) → IsRead p g F a → IsPoint g a.point
read_point p g F a (inl w) = (After a.occurrence, w.point)
read_point p g F a (inr w) = (After a.occurrence, w.point)

pub given_point : (p : Program) (g : Graph) (parts : Parts) (a : Access) → IsGiven p g parts a → IsPoint g a.point
given_point p g parts a (inl b) = start_point p g (slice_get p.variables b.number) b.object.node a.point b.point
given_point p g parts a (inr e) = entry_point g (defined_by (slice_get g.definitions e.f.0)) a.point e.point

pub all_in : (g : Graph) (out : List Access) (P : Access → Type 0) → ((a : Access) → Contains out a ↔ P a) → ((a : Access) → P a → IsPoint g a.point) → IsInGraph g out
all_in g out P each points naming a is = within g a.point naming (points a ((each a).0 is))
