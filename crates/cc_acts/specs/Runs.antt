-- What a run gives: events, and how it stops or goes on.
use Rattle.std.specs.Prelude.{List, [], ◌∷◌}
use Rattle.cc_meaning.specs.declared.event.Event.{Event}
use Rattle.cc_acts.specs.declared.state.State.{State}
use Rattle.cc_acts.specs.declared.stop.Stop.{Stop}

-- The run of a part of a program: events, and then a value and a state to go on with, or why it stops.
pub data Run (A : Type 0) : Type 0 where
  Then : (event : Event) (rest : Run A) → Run A
  Goes : (value : A) (state : State) → Run A
  Stops : (why : Stop) → Run A
  -- a machine's bound on its steps ran out: never a program's run
  Cut : Run A

abbrev pub events_of : {A : Type 0} → Run A → List Event
events_of (Then e r) = e ∷ events_of r
events_of (Goes x s) = []
events_of (Stops why) = []
events_of Cut = []

-- a part of a program, from a state
abbrev pub Part : Type 0 → Type 0
Part A = State → Run A

-- goes on with what a run gives
abbrev pub go_on : {A B : Type 0} → Run A → (A → Part B) → Run B
go_on (Then e r) f = Then e (go_on r f)
go_on (Goes x s) f = f x s
go_on (Stops why) f = Stops why
go_on Cut f = Cut

infixl 10 ◌>>=◌ ◌>>◌
abbrev pub ◌>>=◌ : {A B : Type 0} → Part A → (A → Part B) → Part B
(m >>= f) s = go_on (m s) f

abbrev pub ◌>>◌ : {A B : Type 0} → Part A → Part B → Part B
(m >> n) s = go_on (m s) (λ _. n)

abbrev pub give : {A : Type 0} → A → Part A
give x s = Goes x s

abbrev pub stop : {A : Type 0} → Stop → Part A
stop why s = Stops why

abbrev pub tell : Event → Part (Unit {0})
tell e s = Then e (Goes tt s)
