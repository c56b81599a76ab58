-- Of which variables the address is taken.
use Rattle.std.specs.Prelude.{ℕ, ◌+◌, ◌<◌, ◌≡◌, Bool, true, false, ◌||◌, if◌then◌else◌, List, [], ◌∷◌, Option, Some, None, length, slice_get, slice_set}
use Rattle.cc_arena.specs.declared.arena.Arena.{Arena}
use Rattle.cc_arena.specs.declared.arena.Placed.{Placed}
use Rattle.cc_arena.specs.declared.node.Node.{Node}
use Rattle.cc_arena.specs.declared.node.Node.TheVariants as node
use Rattle.cc_symbols.specs.declared.symbols.Symbols.{Symbols}
use Rattle.cc_symbols.specs.Places.{grown}
use Rattle.cc_arena_rules.specs.declared.around.Around.{Around}
use Rattle.cc_arena_rules.specs.Inherited.{answer_at}
use Rattle.cc_arena_rules.specs.Looks.{nodes_in, named}

-- whether a node takes the address of what it names
abbrev pub takes : Node → Option Around → Bool
takes node.Name (Some own) = own.is_addressed || own.is_array
takes what own = false

abbrev pub marked : Option ℕ → List Bool → List Bool
marked (Some d) flags = slice_set flags d true
marked None flags = flags

abbrev pub marked_if : Bool → Option ℕ → List Bool → List Bool
marked_if takes d flags = if takes then marked d flags else flags

-- the flags with those that the nodes from the n-th on set
abbrev pub taken_from : Symbols → List Around → ℕ → List Placed → ℕ → List Bool → List Bool
taken_from S around start [] n flags = flags
taken_from S around start (x ∷ xs) n flags = taken_from S around start xs (n + 1) (marked_if (takes x.node (answer_at around start n)) (named S n) flags)

abbrev pub taken : Arena → Symbols → List Around → ℕ → ℕ → List Bool
taken A S around start last = taken_from S around start (nodes_in A start last) start (grown [] (length S.declared) false)

-- in the stretch of nodes that begins with `start`, one takes the address of the variable of the declaration d
pub record TakesOf (S : Symbols) (around : List Around) (start : ℕ) (nodes : List Placed) (d : ℕ) : Type 0 where
  pub place : ℕ
  pub placed : Placed
  pub there : slice_get nodes place ≡ Some placed
  pub takes : takes placed.node (answer_at around start (start + place)) ≡ true
  pub named : named S (start + place) ≡ Some d

-- these are set, and no others
pub record AreTaken (S : Symbols) (around : List Around) (start : ℕ) (nodes : List Placed) (flags : List Bool) : Type 0 where
  pub long : length flags ≡ length S.declared
  pub only : (d : ℕ) → slice_get flags d ≡ Some true → TakesOf S around start nodes d
  pub each : (d : ℕ) → d < length S.declared → TakesOf S around start nodes d → slice_get flags d ≡ Some true
