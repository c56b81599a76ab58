-- Which names stand twice in one full expression.
use Rattle.std.specs.Prelude.{ℕ, ◌+◌, ◌-◌, ◌<◌, ◌≡◌, ◌≢◌, Bool, true, false, nat_eq, nat_le, if◌then◌else◌, List, [], ◌∷◌, Option, Some, None, length, slice_get, slice_set}
use Rattle.cc_arena.specs.declared.arena.Arena.{Arena}
use Rattle.cc_arena.specs.declared.arena.Placed.{Placed}
use Rattle.cc_arena.specs.declared.node.Node.{Node}
use Rattle.cc_arena.specs.declared.node.Node.TheVariants as node
use Rattle.cc_symbols.specs.declared.symbols.Symbols.{Symbols}
use Rattle.cc_symbols.specs.Places.{grown}
use Rattle.cc_arena_rules.specs.declared.around.Around.{Around}
use Rattle.cc_arena_rules.specs.declared.around.Extent.{Extent}
use Rattle.cc_arena_rules.specs.declared.around.Extent.TheVariants as extent
use Rattle.cc_arena_rules.specs.declared.repeats.Met.{Met}
use Rattle.cc_arena_rules.specs.declared.repeats.Meetings.{Meetings}
use Rattle.cc_arena_rules.specs.Inherited.{answer_at}
use Rattle.cc_arena_rules.specs.Looks.{flat, nodes_in, named}

-- the full expression that a name stands in
abbrev pub whole_in : Extent → Option ℕ
whole_in (extent.Expression whole) = Some whole
whole_in e = None

abbrev pub whole_of : Node → Option Around → Option ℕ
whole_of node.Name (Some own) = whole_in own.extent
whole_of what own = None

-- the flags begin with that of the node `start`
abbrev pub marked : ℕ → ℕ → List Bool → List Bool
marked start n flags = if nat_le start n then slice_set flags (n - start) true else flags

-- the name n and the one before it, where both stand in one full expression
abbrev pub both_marked : ℕ → ℕ → ℕ → Option Met → List Bool → List Bool
both_marked start n whole (Some met) flags = if nat_eq met.whole whole then marked start n (marked start met.node flags) else flags
both_marked start n whole None flags = flags

abbrev pub last_of : List (Option Met) → ℕ → Option Met
last_of last d = flat (slice_get last d)

-- the name n of the declaration d is met in this full expression
abbrev pub met : ℕ → ℕ → Option ℕ → Option ℕ → Meetings → Meetings
met start n (Some whole) (Some d) m = record {
  last = slice_set m.last d (Some (record { node = n; whole = whole }));
  flags = both_marked start n whole (last_of m.last d) m.flags;
}
met start n (Some whole) None m = m
met start n None d m = m

-- what was met, with what the nodes from the n-th on meet
abbrev pub met_from : Symbols → List Around → ℕ → List Placed → ℕ → Meetings → Meetings
met_from S around start [] n m = m
met_from S around start (x ∷ xs) n m = met_from S around start xs (n + 1) (met start n (whole_of x.node (answer_at around start n)) (named S n) m)

abbrev pub no_meetings : Symbols → List Placed → Meetings
no_meetings S nodes = record { last = grown [] (length S.declared) None; flags = grown [] (length nodes) false }

abbrev pub repeats : Arena → Symbols → List Around → ℕ → ℕ → List Bool
repeats A S around start last = (met_from S around start (nodes_in A start last) start (no_meetings S (nodes_in A start last))).flags

-- the node at this place of the stretch is a name of the declaration d and stands in the full expression `whole`
pub record Occurs (S : Symbols) (around : List Around) (start : ℕ) (nodes : List Placed) (place whole d : ℕ) : Type 0 where
  pub placed : Placed
  pub there : slice_get nodes place ≡ Some placed
  pub stands : whole_of placed.node (answer_at around start (start + place)) ≡ Some whole
  pub names : named S (start + place) ≡ Some d

-- so does another one
pub record OccursTwice (S : Symbols) (around : List Around) (start : ℕ) (nodes : List Placed) (place : ℕ) : Type 0 where
  pub whole : ℕ
  pub declaration : ℕ
  pub other : ℕ
  pub differs : other ≢ place
  pub one : Occurs S around start nodes place whole declaration
  pub two : Occurs S around start nodes other whole declaration

-- between two names in one full expression stands none of the same declaration in another one, since it is one stretch
abbrev pub AreStretches : Symbols → List Around → ℕ → List Placed → Type 0
AreStretches S around start nodes = (i j k whole between d : ℕ) → i < j → j < k
    → Occurs S around start nodes i whole d → Occurs S around start nodes j between d → Occurs S around start nodes k whole d
    → between ≡ whole

-- the flags are those of the names that stand twice
pub record AreRepeats (S : Symbols) (around : List Around) (start : ℕ) (nodes : List Placed) (flags : List Bool) : Type 0 where
  pub long : length flags ≡ length nodes
  pub only : (i : ℕ) → slice_get flags i ≡ Some true → OccursTwice S around start nodes i
  pub each : AreStretches S around start nodes → (i : ℕ) (t : OccursTwice S around start nodes i)
      → t.declaration < length S.declared → slice_get flags i ≡ Some true
