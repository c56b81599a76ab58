-- The map, the trail and the depth agree.
use Rattle.std.specs.Prelude.{◌≡◌, ℕ, List, [], Option}
use Rattle.std.specs.Borrow.{Bor}
use Rattle.cc_scopes.specs.declared.innermost.Binding.{Binding}
use Rattle.cc_scopes.specs.declared.scopes.Step.{Step}
use Rattle.cc_scopes.specs.declared.scopes.Scopes.TheInside.{Inside}
use Rattle.cc_scopes.specs.Innermost.{binding_in}
use Rattle.cc_scopes.specs.Names.{Names}
use Rattle.cc_scopes.specs.Trail.{names_of, binding_of, depth_of, KnowHidden}

-- the names that a trail stands for
abbrev pub names_in : Inside → Names
names_in s = names_of s.trail.items

pub record Agree (innermost : List (Bor (List ℕ) × Option Binding)) (trail : List Step) (depth : ℕ) : Type 0 where
  -- the map has the innermost declaration of each name
  pub innermost_is : (name : List ℕ) → binding_in innermost name ≡ binding_of (names_of trail) name
  pub hidden_are : KnowHidden [] trail
  pub depth_is : depth ≡ depth_of (names_of trail)

abbrev pub IsTrailOf : Inside → Type 0
IsTrailOf s = Agree s.innermost.entries s.trail.items s.depth
