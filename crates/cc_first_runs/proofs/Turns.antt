-- More turns only add to a run.
use Rattle.std.proofs.Common.{◌≡◌, ℕ, zero, suc, ◌+◌, ◌≤◌, List, [], ◌∷◌, Option, Some, None, refl, sym, ap, ◌∙◌, subst, arith}
use Rattle.std.specs.Prelude.{slice_get, ◌++◌, ◌≢◌}
use Rattle.cc_first_runs.specs.Program.{Name, Function, Program}
use Rattle.cc_first_runs.specs.Events.{Site, Event, Enter, Leave, Done, TurnsOut, NoBody}
use Rattle.cc_first_runs.specs.Parts.{State, Run, Then, Goes, Stops, Part, go_on, ◌>>=◌, ◌>>◌, give, stop, tell, new_act, turn_of, events_of, end_of}
use Rattle.cc_first_runs.specs.Runs.{Task, Enters, designated, eval_call, exec_from, enter, perform, runs, run_calls, Told}
use Rattle.cc_first_runs.specs.Laws.{MoreTurnsAdd}

-- the state with d turns more
abbrev later : ℕ → State → State
later d state = record state { turns = state.turns + d }

-- The longer run does what the run does, and goes on with d turns more. Where the run has no turn left, the longer one
-- goes on in any way.
abbrev Grows : {A : Type 0} → ℕ → Run A → Run A → Type 0
Grows {A} d (Then event rest) longer = (next : Run A) × (longer ≡ Then event next) × Grows d rest next
Grows d (Goes value state) longer = longer ≡ Goes value (later d state)
Grows d (Stops TurnsOut) longer = Unit {0}
Grows d (Stops Done) longer = longer ≡ Stops Done
Grows d (Stops NoBody) longer = longer ≡ Stops NoBody

-- the same of parts of a program, from each state
pub record GrowsAll {A : Type 0} (d : ℕ) (part longer : Part A) : Type 0 where
  by : (state : State) → Grows d (part state) (longer (later d state))

go_on_grows : {A B : Type 0} (d : ℕ) (r r' : Run A) (f f' : A → Part B) → Grows d r r' → ((x : A) → GrowsAll d (f x) (f' x)) → Grows d (go_on r f) (go_on r' f')
go_on_grows d (Then event rest) r' f f' h g = (go_on h.0 f', ap (λ q. go_on q f') h.1, go_on_grows d rest h.0 f f' h.2 g)
go_on_grows d (Goes value state) r' f f' h g = subst (λ q. Grows d (f value state) (go_on q f')) (sym h) ((g value).by state)
go_on_grows d (Stops TurnsOut) r' f f' h g = tt
go_on_grows d (Stops Done) r' f f' h g = ap (λ q. go_on q f') h
go_on_grows d (Stops NoBody) r' f f' h g = ap (λ q. go_on q f') h

choosing : {A B : Type 0} (d : ℕ) (m m' : Part A) (f f' : A → Part B) → GrowsAll d m m' → ((x : A) → GrowsAll d (f x) (f' x)) → GrowsAll d (m >>= f) (m' >>= f')
choosing d m m' f f' h g = record { by = λ state. go_on_grows d (m state) (m' (later d state)) f f' (h.by state) g }

and_so : {A B : Type 0} (d : ℕ) (m m' : Part A) (n n' : Part B) → GrowsAll d m m' → GrowsAll d n n' → GrowsAll d (m >> n) (m' >> n')
and_so d m m' n n' h g = record { by = λ state. go_on_grows d (m state) (m' (later d state)) (λ _. n) (λ _. n') (h.by state) (λ _. g) }

gives : {A : Type 0} (d : ℕ) (x : A) → GrowsAll d (give x) (give x)
gives d x = record { by = λ state. refl }

no_body : {A : Type 0} (d : ℕ) → GrowsAll {A = A} d (stop NoBody) (stop NoBody)
no_body d = record { by = λ state. refl }

tells : (d : ℕ) (event : Event) → GrowsAll d (tell event) (tell event)
tells d event = record { by = λ state. (Goes tt (later d state), refl, refl) }

new_acts : (d : ℕ) → GrowsAll d new_act new_act
new_acts d = record { by = λ state. refl }

module _ (program : Program) (d : ℕ) (next next' : Task → Part (Unit {0})) (h : (task : Task) → GrowsAll d (next task) (next' task)) where
  calls_grow : (site : Site) (callee : Option ℕ) → GrowsAll d (eval_call next site callee) (eval_call next' site callee)
  calls_grow site None = no_body d
  calls_grow site (Some callee) = h (Enters (Some site) callee)

  bodies_grow : (f i : ℕ) (calls : List Name) → GrowsAll d (exec_from program next f i calls) (exec_from program next' f i calls)
  bodies_grow f i [] = gives d tt
  bodies_grow f i (call ∷ calls) = and_so d _ _ _ _ (calls_grow _ (designated program call)) (bodies_grow f (suc i) calls)

  enters_grow : (site : Option Site) (g : ℕ) (function : Option Function) → GrowsAll d (enter program next site g function) (enter program next' site g function)
  enters_grow site g None = no_body d
  enters_grow site g (Some function) =
      choosing d _ _ _ _ (new_acts d) (λ act. and_so d _ _ _ _ (tells d (Enter site g act)) (and_so d _ _ _ _ (bodies_grow g 0 function.calls) (tells d (Leave None act))))

  tasks_grow : (task : Task) → GrowsAll d (perform program next task) (perform program next' task)
  tasks_grow (Enters site g) = enters_grow site g (slice_get program g)

turns_grow : {A : Type 0} (d turns : ℕ) (part longer : Part A) → GrowsAll d part longer → (state : State) → Grows d (turn_of turns part state) (turn_of (turns + d) longer (later d state))
turns_grow d zero part longer h state = tt
turns_grow d (suc turns) part longer h state =
    let more : suc (turns + d) ≡ suc turns + d = omega arith in
    subst (λ n. Grows d (part (record state { turns = turns })) (turn_of n longer (later d state))) more (h.by (record state { turns = turns }))

runs_grow : (program : Program) (d k k' : ℕ) → k ≤ k' → (task : Task) → GrowsAll d (runs program k task) (runs program k' task)
runs_grow program d zero k' le task = record { by = λ state. tt }
runs_grow program d (suc k) zero le task = absurd (omega arith)
runs_grow program d (suc k) (suc k') le task =
    record { by = λ state. turns_grow d state.turns _ _ (tasks_grow program d (runs program k) (runs program k') (runs_grow program d k k' (omega arith)) task) state }

tests_grow : (program : Program) (d k k' : ℕ) → k ≤ k' → (calls : List ℕ) → GrowsAll d (run_calls program k calls) (run_calls program k' calls)
tests_grow program d k k' le [] = gives d tt
tests_grow program d k k' le (call ∷ calls) = and_so d _ _ _ _ (runs_grow program d k k' le (Enters None call)) (tests_grow program d k k' le calls)

pub same_told : (a b : Told) → a.events ≡ b.events → a.end ≡ b.end → a ≡ b
same_told a b p q = λ i. record { events = p i; end = q i }

-- what Grows says of the events and the end
record Begun (r longer : Run (Unit {0})) : Type 0 where
  first : (rest : List Event) × (events_of longer ≡ events_of r ++ rest)
  stays : end_of r ≢ TurnsOut → (events_of longer ≡ events_of r) × (end_of longer ≡ end_of r)

begins : (d : ℕ) (r longer : Run (Unit {0})) → Grows d r longer → Begun r longer
begins d (Then event rest) longer h =
    let b = begins d rest h.0 h.2 in
    record {
      first = (b.first.0, ap events_of h.1 ∙ ap (λ events. event ∷ events) b.first.1);
      stays = λ n. (ap events_of h.1 ∙ ap (λ events. event ∷ events) (b.stays n).0, ap end_of h.1 ∙ (b.stays n).1);
    }
begins d (Goes value state) longer h = record { first = ([], ap events_of h); stays = λ n. (ap events_of h, ap end_of h) }
begins d (Stops TurnsOut) longer h = record { first = (events_of longer, refl); stays = λ n. absurd (n refl) }
begins d (Stops Done) longer h = record { first = ([], ap events_of h); stays = λ n. (ap events_of h, ap end_of h) }
begins d (Stops NoBody) longer h = record { first = ([], ap events_of h); stays = λ n. (ap events_of h, ap end_of h) }

pub more_turns_add : MoreTurnsAdd
more_turns_add program calls turns more =
    let b = begins more _ _ ((tests_grow program more turns (turns + more) (omega arith) calls).by (record { turns = turns; next_act = 1 })) in
    record { first = b.first; stays = λ n. same_told _ _ (b.stays n).0 (b.stays n).1 }
