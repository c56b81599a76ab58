-- Acts whose functions begin with their entry.
use Rattle.std.specs.Prelude.{◌≡◌, ℕ, List, [], ◌∷◌, Option, Some, None, Bool, true, false, ◌&&◌, slice_get}
use Rattle.cc_acts.specs.declared.act.Act.{Act}
use Rattle.cc_acts.specs.declared.act.Act.TheVariants.{Enter}
use Rattle.cc_acts.specs.declared.acts.Acts.{Acts}
use Rattle.cc_acts.specs.declared.acts.Node.{Node}

-- the act enters a function
abbrev pub is_entry : Act → Bool
is_entry (Enter callee from formals names next) = true
is_entry _ = false

-- What stands at a point enters a function. Where nothing stands the machine is lost before it tells anything.
abbrev pub enters_at : Option Node → Bool
enters_at None = true
enters_at (Some n) = is_entry n.act

-- the same of the point at which a function is entered, if it has a body
abbrev pub enters_first : List Node → Option ℕ → Bool
enters_first nodes None = true
enters_first nodes (Some point) = enters_at (slice_get nodes point)

abbrev pub all_enter : List Node → List (Option ℕ) → Bool
all_enter nodes [] = true
all_enter nodes (o ∷ os) = enters_first nodes o && all_enter nodes os

-- What stands at the entry of a function enters it. One pass over the entries tells whether it is so.
abbrev pub AreEntered : Acts → Type 0
AreEntered G = all_enter G.nodes G.entries ≡ true
