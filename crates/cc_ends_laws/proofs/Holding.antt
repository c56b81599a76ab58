-- What holds where a run goes on.
use Rattle.std.proofs.Common.{◌≡◌, List, [], ◌∷◌, Option, Some, None, refl, ap}
use Rattle.cc_meaning.specs.declared.event.Event.{Event}
use Rattle.cc_acts.specs.declared.state.State.{State}
use Rattle.cc_acts.specs.declared.stop.Stop.{Stop}
use Rattle.cc_acts.specs.Runs.{Run, Then, Goes, Stops, Cut, Part, go_on}
use Rattle.cc_interp.specs.Ran.{prepend, ended}

-- the run is not cut off, and where it goes on, this holds
abbrev pub Holds : {A : Type 0} → (A → State → Type 0) → Run A → Type 0
Holds Q (Then e r) = Holds Q r
Holds Q (Goes x s) = Q x s
Holds Q (Stops why) = Unit {0}
Holds Q Cut = ⊥

-- and what follows goes on from there
pub holds_on : {A B : Type 0} (Q : A → State → Type 0) (R : B → State → Type 0) (f : A → Part B) → ((x : A) (s : State) → Q x s → Holds R (f x s)) → (r : Run A) → Holds Q r → Holds R (go_on r f)
holds_on Q R f goes (Then e r) h = holds_on Q R f goes r h
holds_on Q R f goes (Goes x s) h = goes x s h
holds_on Q R f goes (Stops why) h = tt
holds_on Q R f goes Cut h = h

-- where the whole is not cut off, its beginning isn't
pub first_holds : {A B : Type 0} (R : B → State → Type 0) (f : A → Part B) (r : Run A) → Holds R (go_on r f) → Holds (λ x s. Holds R (f x s)) r
first_holds R f (Then e r) h = first_holds R f r h
first_holds R f (Goes x s) h = h
first_holds R f (Stops why) h = tt
first_holds R f Cut h = h

-- what follows may be another part that goes on in the same way
pub same_on : {A B : Type 0} (Q : A → State → Type 0) (f g : A → Part B) → ((x : A) (s : State) → Q x s → g x s ≡ f x s) → (r : Run A) → Holds Q r → go_on r g ≡ go_on r f
same_on Q f g same (Then e r) h = ap (Then e) (same_on Q f g same r h)
same_on Q f g same (Goes x s) h = same x s h
same_on Q f g same (Stops why) h = refl
same_on Q f g same Cut h = absurd h

-- what a run that is not cut off tells, and how it ends
pub record Told (r : Run (Unit {0})) : Type 0 where
  pub events : List Event
  pub stop : Option Stop
  pub last : State
  pub run_is : r ≡ prepend events (ended stop last)

pub told : (Q : Unit {0} → State → Type 0) → State → (r : Run (Unit {0})) → Holds Q r → Told r
told Q s0 (Then e r) h =
    let t = told Q s0 r h in
    record { events = e ∷ t.events; stop = t.stop; last = t.last; run_is = ap (Then e) t.run_is }
told Q s0 (Goes x s) h = record { events = []; stop = None; last = s; run_is = refl }
told Q s0 (Stops why) h = record { events = []; stop = Some why; last = s0; run_is = refl }
told Q s0 Cut h = absurd h
