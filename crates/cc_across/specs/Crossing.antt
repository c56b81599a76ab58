-- Which point may come next after which, over calls and returns, by tables.
use Rattle.std.specs.Prelude.{ℕ, ◌≡◌, ◌<◌, ◌↔◌, true, false, List, Some, length, slice_get, Contains}
use Rattle.cc_arena_rules.specs.Looks.{node_at}
use Rattle.cc_facts.specs.declared.facts.Facts.{Facts}
use Rattle.cc_facts.specs.Told.{may_call}
use Rattle.cc_graph.specs.Across.{IsAsked, Across}
use Rattle.cc_graph.specs.declared.graph.Graph.{Graph}
use Rattle.cc_graph.specs.declared.position.Position.{Position}
use Rattle.cc_graph.specs.declared.position.Position.TheVariants.{At, After}
use Rattle.cc_graph.specs.Graphs.{entry_of, exit_of}
use Rattle.cc_graph.specs.Linking.{row_of}
use Rattle.cc_graph.specs.Order.{IsAscending}
use Rattle.cc_graph.specs.Points.{number}
use Rattle.cc_program.specs.declared.function.FuncId.{FuncId}
use Rattle.cc_program.specs.declared.program.Program.{Program}
use Rattle.cc_across.specs.declared.calls.Calls.{Calls}
use Rattle.cc_across.specs.Calling.{callees_of}
use Rattle.cc_across.specs.Pairs.{Pair}
use Rattle.cc_across.specs.Reaching.{the_function}
use Rattle.cc_across.specs.Stepping.{is_at}

-- the point of the number q comes next after that of the number p
pub data Leads (P : Program) (G : Graph) (C : Calls) : Pair → Type 0 where
  Begun : {x : Pair} (f : FuncId) → Contains P.entries f → x.0 ≡ 0 → entry_of G f ≡ Some x.1 → Leads P G C x
  Done : {x : Pair} (f : FuncId) → Contains P.entries f → exit_of G f ≡ Some x.0 → x.1 ≡ 0 → Leads P G C x
  Entered : {x : Pair} (s g : ℕ) → Contains C.sites.items s → Contains (callees_of C s) g → number G.rows (At s) ≡ Some x.0 → entry_of G (the_function g) ≡ Some x.1 → Leads P G C x
  Left : {x : Pair} (s g : ℕ) → Contains C.sites.items s → Contains (callees_of C s) g → exit_of G (the_function g) ≡ Some x.0 → number G.rows (After s) ≡ Some x.1 → Leads P G C x
  Asked : {x : Pair} (s : ℕ) → IsAsked P (node_at P.arena s) → number G.rows (At s) ≡ Some x.0 → number G.rows (After s) ≡ Some x.1 → Leads P G C x
  Inner : {x : Pair} → is_at (slice_get G.positions x.0) ≡ false → Contains (row_of G.next x.0) x.1 → Leads P G C x

-- the points of these numbers are there, and the second comes next after the first
abbrev pub IsStep : Program → Graph → Calls → Pair → Type 0
IsStep P G C x = (x.0 < G.points) × (x.1 < G.points) × Leads P G C x

-- the lists have, for each point, exactly the points that come next, in ascending order
pub record AreNext (P : Program) (G : Graph) (C : Calls) (next : List (List ℕ)) : Type 0 where
  pub long : length next ≡ G.points
  pub exact : (p q : ℕ) → Contains (row_of next p) q ↔ IsStep P G C (p, q)
  pub ascends : (p : ℕ) → IsAscending (row_of next p)

-- the point of the number j may come next after that of the number k, in the program, by the facts
abbrev pub AcrossAt : Program → Facts → Graph → ℕ → ℕ → Type 0
AcrossAt P F G k j = (p : Position) × (q : Position) × (number G.rows p ≡ Some k) × (number G.rows q ≡ Some j) × Across P (λ s g. may_call F s g ≡ true) p q

abbrev pub AreAcross : Program → Facts → Graph → List (List ℕ) → Type 0
AreAcross P F G next = (k j : ℕ) → Contains (row_of next k) j ↔ AcrossAt P F G k j
