-- Lists in which nothing is entered twice, and nothing is read of what has ended.
use Rattle.std.specs.Prelude.{◌≡◌, ℕ, List, [], ◌∷◌, ◌++◌, Bool, true, false, cond, nat_eq}
use Rattle.cc_meaning.specs.declared.event.Event.{Event}
use Rattle.cc_meaning.specs.declared.event.Event.TheVariants.{Enter, Pass, Def, Use, Leave, Gone, Ask}
use Rattle.cc_meaning.specs.declared.event.Cell.{Cell}
use Rattle.cc_record_laws.specs.Past.{leaves, enters}

-- the cell's object ends
abbrev pub ends_cell : Cell → Event → Bool
ends_cell c (Gone n) = nat_eq n c.instance
ends_cell c (Ask s g a) = false
ends_cell c (Enter s g a) = false
ends_cell c (Def o x a) = false
ends_cell c (Pass s k x a) = false
ends_cell c (Use o x a) = false
ends_cell c (Leave r a) = false

-- some event of the list fits
abbrev pub some_of : (Event → Bool) → List Event → Bool
some_of fits [] = false
some_of fits (e ∷ es) = cond (fits e) true (some_of fits es)

-- The event's activation has not ended, nor has the cell that it reads; what it enters was not entered before.
abbrev pub Lives : List Event → Event → Type 0
Lives past (Enter s g a) = (some_of (leaves a) past ≡ false) × (some_of (enters a) past ≡ false)
Lives past (Pass s k c a) = some_of (leaves a) past ≡ false
Lives past (Def o c a) = Unit {0}
Lives past (Use o c a) = (some_of (ends_cell c) past ≡ false) × (some_of (leaves a) past ≡ false)
Lives past (Leave r a) = some_of (leaves a) past ≡ false
Lives past (Gone n) = Unit {0}
Lives past (Ask t' g' a') = Unit {0}

abbrev pub IsOrderlyAfter : List Event → List Event → Type 0
IsOrderlyAfter past [] = Unit {0}
IsOrderlyAfter past (e ∷ es) = Lives past e × IsOrderlyAfter (past ++ e ∷ []) es

-- Nothing is read of what has ended, and no activation is entered twice.
abbrev pub IsOrderly : List Event → Type 0
IsOrderly E = IsOrderlyAfter [] E
