-- How the events of a run lie on a path through the program's control points.
use Rattle.std.specs.Prelude.{◌≡◌, ℕ, List, [], ◌∷◌, Option, Some, None}
use Rattle.cc_base.specs.Paths.{Reaches}
use Rattle.cc_first_runs.specs.Program.{Program}
use Rattle.cc_first_runs.specs.Points.{Point, Root, Entry, Exit, At, After, Call, Steps, Within, Across}
use Rattle.cc_first_runs.specs.Events.{Site, Event, Enter, Leave}

-- an activation that has begun: the call that entered it, its function and its number
pub record Activation : Type 0 where
  pub site : Option Site
  pub function : ℕ
  pub act : ℕ

-- the activations that have begun and not ended after an event, the last one first
abbrev pub active_after : List Activation → Event → List Activation
active_after active (Enter site g act) = record { site = site; function = g; act = act } ∷ active
active_after [] (Leave ret act) = []
active_after (last ∷ active) (Leave ret act) = active

-- the point at which a call enters a function, and the one to which it returns; for a test's call both are the root
abbrev pub at_call : Option Site → Point
at_call None = Root
at_call (Some site) = At site.f site.i

abbrev pub after_call : Option Site → Point
after_call None = Root
after_call (Some site) = After site.f (Call site.i)

-- the point from which an event leads
abbrev pub point_before : List Activation → Event → Point
point_before active (Enter site g act) = at_call site
point_before [] (Leave ret act) = Root
point_before (last ∷ active) (Leave ret act) = Exit last.function

-- the point to which it leads
abbrev pub point_after : List Activation → Event → Point
point_after active (Enter site g act) = Entry g
point_after [] (Leave ret act) = Root
point_after (last ∷ active) (Leave ret act) = after_call last.site

-- A path within the function of the last activation leads from its entry to the point. With no activation the point is
-- the root.
abbrev pub IsWithin : Program → List Activation → Point → Type 0
IsWithin program [] point = point ≡ Root
IsWithin program (last ∷ active) point = Reaches (Within program) (Entry last.function) point

-- what ends is the last activation
abbrev pub EndsLast : List Activation → Event → Type 0
EndsLast active (Enter site g act) = Unit {0}
EndsLast [] (Leave ret act) = ⊥
EndsLast (last ∷ active) (Leave ret act) = act ≡ last.act

-- The event happens behind the point: steps inside a function lead from there to the event's own point, which lies
-- within the last activation, and from that point the event leads across to the next one.
pub record Happens (program : Program) (entry : ℕ) (active : List Activation) (point : Point) (event : Event) : Type 0 where
  pub steps : Reaches (Steps program) point (point_before active event)
  pub within : IsWithin program active (point_before active event)
  pub crosses : Across program entry (point_before active event) (point_after active event)
  pub ends : EndsLast active event

-- the events happen one behind another on a path across from the point
abbrev pub HappenFrom : Program → (entry : ℕ) → List Activation → Point → List Event → Type 0
HappenFrom program entry active point [] = Unit {0}
HappenFrom program entry active point (event ∷ events) =
    Happens program entry active point event × HappenFrom program entry (active_after active event) (point_after active event) events

-- the activations after several events
abbrev pub active_after_all : List Activation → List Event → List Activation
active_after_all active [] = active
active_after_all active (event ∷ events) = active_after_all (active_after active event) events
