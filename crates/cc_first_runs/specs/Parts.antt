-- How parts of a program are executed: from a state a part gives events, and then the run goes on or ends.
use Rattle.std.specs.Prelude.{ℕ, zero, suc, List, [], ◌∷◌}
use Rattle.cc_first_runs.specs.Events.{Event, End, Done, TurnsOut}

-- the turns that are left, and the number of the next activation
pub record State : Type 0 where
  pub turns : ℕ
  pub next_act : ℕ

-- events, and then a value and a state to go on from, or the end of the run
pub data Run (A : Type 0) : Type 0 where
  Then : (event : Event) (rest : Run A) → Run A
  Goes : (value : A) (state : State) → Run A
  Stops : (end : End) → Run A

abbrev pub events_of : {A : Type 0} → Run A → List Event
events_of (Then event rest) = event ∷ events_of rest
events_of (Goes value state) = []
events_of (Stops end) = []

abbrev pub end_of : {A : Type 0} → Run A → End
end_of (Then event rest) = end_of rest
end_of (Goes value state) = Done
end_of (Stops end) = end

-- a part of a program, from a state
abbrev pub Part : Type 0 → Type 0
Part A = State → Run A

-- goes on from where a run goes on
abbrev pub go_on : {A B : Type 0} → Run A → (A → Part B) → Run B
go_on (Then event rest) next = Then event (go_on rest next)
go_on (Goes value state) next = next value state
go_on (Stops end) next = Stops end

-- one part, and then the part that its value chooses, or always the same
infixl 10 ◌>>=◌ ◌>>◌
abbrev pub ◌>>=◌ : {A B : Type 0} → Part A → (A → Part B) → Part B
(part >>= next) state = go_on (part state) next

abbrev pub ◌>>◌ : {A B : Type 0} → Part A → Part B → Part B
(part >> next) state = go_on (part state) (λ value. next)

abbrev pub give : {A : Type 0} → A → Part A
give value state = Goes value state

abbrev pub stop : {A : Type 0} → End → Part A
stop end state = Stops end

abbrev pub tell : Event → Part (Unit {0})
tell event state = Then event (Goes tt state)

-- the number of an activation that begins
abbrev pub new_act : Part ℕ
new_act state = Goes state.next_act (record state { next_act = suc state.next_act })

-- the part takes a turn first, of these that are left
abbrev pub turn_of : {A : Type 0} → ℕ → Part A → Part A
turn_of zero part state = Stops TurnsOut
turn_of (suc turns) part state = part (record state { turns = turns })

abbrev pub takes_turn : {A : Type 0} → Part A → Part A
takes_turn part state = turn_of state.turns part state
