-- What a search over rows keeps, where each point has a row of the points that come next.
use Rattle.std.specs.Prelude.{◌≡◌, ℕ, ◌+◌, ◌<◌, ◌⊎◌, List, [], ◌∷◌, length, Some, Bool, true, false, slice_get, Contains, ◌↔◌}
use Rattle.std.specs.declared.vec.Vec.{Vec}
use Rattle.std.specs.declared.alloc.Global.{Global}
use Rattle.cc_base.specs.declared.reach.Edge.{Edge}
use Rattle.cc_base.specs.Edges.{IsMarked, Leads}
use Rattle.cc_base.specs.Paths.{Reaches}

-- for each point the points that come next
abbrev pub Rows : Type 0
Rows = List (Vec ℕ Global)

-- b stands in the row of a
pub record HasEdge (rows : Rows) (a b : ℕ) : Type 0 where
  pub row : Vec ℕ Global
  pub at : slice_get rows a ≡ Some row
  pub has : Contains row.items b

-- the rows have these edges and no others
abbrev pub AreRowsOf : List Edge → Rows → Type 0
AreRowsOf edges rows = (a b : ℕ) → HasEdge rows a b ↔ Leads edges a b

-- each point of a row has a row itself
abbrev pub StaysWithin : Rows → Type 0
StaysWithin rows = (a b : ℕ) → HasEdge rows a b → b < length rows

-- how many points are not marked yet
abbrev pub unmarked_count : List Bool → ℕ
unmarked_count [] = 0
unmarked_count (true ∷ marks) = unmarked_count marks
unmarked_count (false ∷ marks) = unmarked_count marks + 1

-- These points are marked now, and no others that were not marked before. Those that were not marked have gone to the
-- work, so what is not marked and what is to be done are together as many as before.
pub record MarksAll (old new : List Bool) (work work' points : List ℕ) : Type 0 where
  pub same_length : length new ≡ length old
  pub marks_kept : (point : ℕ) → IsMarked old point → IsMarked new point
  pub marked : (point : ℕ) → Contains points point → IsMarked new point
  pub only : (point : ℕ) → IsMarked new point → IsMarked old point ⊎ (Contains points point × Contains work' point)
  pub work_kept : (point : ℕ) → Contains work point → Contains work' point
  pub work_only : (point : ℕ) → Contains work' point → Contains work point ⊎ Contains points point
  pub same_count : unmarked_count new + length work' ≡ unmarked_count old + length work

-- Each marked point can be reached. What comes next after a marked point is marked, unless the point is still in the
-- work.
pub record Explores (rows : Rows) (start : ℕ) (marks : List Bool) (work : List ℕ) : Type 0 where
  pub same_length : length marks ≡ length rows
  pub start_marked : IsMarked marks start
  pub reached : (point : ℕ) → IsMarked marks point → Reaches (HasEdge rows) start point
  pub work_marked : (point : ℕ) → Contains work point → IsMarked marks point
  pub followed : (a b : ℕ) → IsMarked marks a → HasEdge rows a b → IsMarked marks b ⊎ Contains work a
