-- Rows that are added to others.
use Rattle.std.specs.Prelude.{◌⊎◌, ◌↔◌, List, Contains}

-- the new list has what the old one has, and what P says
abbrev pub Gains : {X : Type 0} → List X → List X → (X → Type 0) → Type 0
Gains {X} old new P = (x : X) → Contains new x ↔ (Contains old x ⊎ P x)

-- what the list has, and what P says
abbrev pub Or : {X : Type 0} → List X → (X → Type 0) → X → Type 0
Or old P x = Contains old x ⊎ P x

-- what one of these gives
abbrev pub Each : {X Y : Type 0} → List Y → (Y → X → Type 0) → X → Type 0
Each {Y = Y} ys P x = (y : Y) × Contains ys y × P y x
