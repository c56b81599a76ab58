-- The last event of a list that fits, and what events do to a cell.
use Rattle.std.specs.Prelude.{◌≡◌, ℕ, suc, ◌<◌, List, [], ◌∷◌, Option, Some, None, Bool, true, false, cond, nat_eq, slice_get}
use Rattle.cc_meaning.specs.declared.event.Event.{Event}
use Rattle.cc_meaning.specs.declared.event.Event.TheVariants.{Enter, Pass, Def, Use, Leave, Gone, Ask}
use Rattle.cc_meaning.specs.declared.event.Cell.{Cell}
use Rattle.cc_record_laws.specs.Roles.{Roles}

abbrev pub or_else : {A : Type 0} → Option A → Option A → Option A
or_else (Some x) y = Some x
or_else None y = y

-- one position later
abbrev pub later : Option (ℕ × Event) → Option (ℕ × Event)
later None = None
later (Some p) = Some (suc p.0, p.1)

-- the last event that fits, with its position
abbrev pub last_of : (Event → Bool) → List Event → Option (ℕ × Event)
last_of fits [] = None
last_of fits (e ∷ es) = or_else (later (last_of fits es)) (cond (fits e) (Some (0, e)) None)

-- At i stands the last event before m that fits.
pub record IsLast (E : List Event) (fits : Event → Bool) (m i : ℕ) (e : Event) : Type 0 where
  pub before : i < m
  pub at : slice_get E i ≡ Some e
  pub fit : fits e ≡ true
  pub none : (n : ℕ) (x : Event) → i < n → n < m → slice_get E n ≡ Some x → fits x ≡ true → ⊥

abbrev pub same_cell : Cell → Cell → Bool
same_cell x c = cond (nat_eq x.object c.object) (cond (nat_eq x.instance c.instance) (nat_eq x.index c.index) false) false

-- a `Def` or `Pass` on the cell
abbrev pub writes : Cell → Event → Bool
writes c (Def o x a) = same_cell x c
writes c (Pass s k x a) = same_cell x c
writes c (Use o x a) = false
writes c (Enter s g a) = false
writes c (Leave r a) = false
writes c (Gone n) = false
writes c (Ask t' g' a') = false

-- a `Def` or `Pass` on the cell, or a `Use` on it by the component
abbrev pub blocks : Roles → Cell → ℕ → Event → Bool
blocks R c k (Def o x a) = same_cell x c
blocks R c k (Pass s n x a) = same_cell x c
blocks R c k (Use o x a) = cond (nat_eq (R.component o) k) (same_cell x c) false
blocks R c k (Enter s g a) = false
blocks R c k (Leave r a) = false
blocks R c k (Gone n) = false
blocks R c k (Ask t' g' a') = false

-- a `Def`, `Use` or `Pass` on the cell
abbrev pub touches : Cell → Event → Bool
touches c (Def o x a) = same_cell x c
touches c (Pass s n x a) = same_cell x c
touches c (Use o x a) = same_cell x c
touches c (Enter s g a) = false
touches c (Leave r a) = false
touches c (Gone n) = false
touches c (Ask t' g' a') = false

-- the `Enter` of the activation
abbrev pub enters : ℕ → Event → Bool
enters act (Def o x a) = false
enters act (Pass s n x a) = false
enters act (Use o x a) = false
enters act (Enter s g a) = nat_eq a act
enters act (Leave r a) = false
enters act (Gone n) = false
enters act (Ask t' g' a') = false

-- a `Use` by the occurrence in the activation
abbrev pub reads : ℕ → ℕ → Event → Bool
reads u act (Def o x a) = false
reads u act (Pass s n x a) = false
reads u act (Use o x a) = cond (nat_eq o u) (nat_eq a act) false
reads u act (Enter s g a) = false
reads u act (Leave r a) = false
reads u act (Gone n) = false
reads u act (Ask t' g' a') = false

-- the definition that a `Def` or `Pass` stands for: the argument of a `Pass` is written to the formal
abbrev pub written : Roles → Event → Option ℕ
written R (Def o x a) = Some o
written R (Pass s k x a) = R.argument s k
written R (Use o x a) = None
written R (Enter s g a) = None
written R (Leave r a) = None
written R (Gone n) = None
written R (Ask t' g' a') = None

-- a `Leave` of the activation
abbrev pub leaves : ℕ → Event → Bool
leaves act (Def o x a) = false
leaves act (Pass s n x a) = false
leaves act (Use o x a) = false
leaves act (Enter s g a) = false
leaves act (Leave r a) = nat_eq a act
leaves act (Gone n) = false
leaves act (Ask t' g' a') = false

abbrev pub is_left : ℕ → List Event → Bool
is_left act [] = false
is_left act (e ∷ es) = cond (leaves act e) true (is_left act es)

-- the activation that the event enters, unless a later event leaves it
abbrev pub enters_open : Event → List Event → Option ℕ
enters_open (Enter s g a) es = cond (is_left a es) None (Some a)
enters_open (Def o x a) es = None
enters_open (Pass s n x a) es = None
enters_open (Use o x a) es = None
enters_open (Leave r a) es = None
enters_open (Gone n) es = None
enters_open (Ask t' g' a') es = None

-- the activation entered last and not left
abbrev pub caller : List Event → Option ℕ
caller [] = None
caller (e ∷ es) = or_else (caller es) (enters_open e es)
