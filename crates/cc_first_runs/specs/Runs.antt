-- Runs of a program of the first form: blocks of direct calls are executed.
use Rattle.std.specs.Prelude.{ℕ, zero, suc, List, [], ◌∷◌, Option, Some, None, slice_get, bytes_eq, position}
use Rattle.cc_first_runs.specs.Program.{Name, Function, Program}
use Rattle.cc_first_runs.specs.Events.{Site, Event, Enter, Leave, End, TurnsOut, NoBody}
use Rattle.cc_first_runs.specs.Parts.{Part, ◌>>=◌, ◌>>◌, give, stop, tell, new_act, takes_turn, events_of, end_of}

-- the function that a name designates: the first one with this name
abbrev pub designated : Program → Name → Option ℕ
designated program name = position (λ function. bytes_eq function.head.text name.text) program

-- what takes a turn: the entry of a function
pub data Task : Type 0 where
  Enters : (site : Option Site) (callee : ℕ) → Task

-- A call (C17 6.5.2.2): its name is evaluated, and then the function is entered. What follows takes `next`, which is
-- what a task does.
abbrev pub eval_call : (Task → Part (Unit {0})) → Site → Option ℕ → Part (Unit {0})
eval_call next site None = stop NoBody
eval_call next site (Some callee) = next (Enters (Some site) callee)

-- The statements of a block are executed in order (C17 6.8p2, 6.8.2), and each is a call (C17 6.8.3p2). These are the
-- calls of function number f from number i on.
abbrev pub exec_from : Program → (Task → Part (Unit {0})) → (f i : ℕ) → List Name → Part (Unit {0})
exec_from program next f i [] = give tt
exec_from program next f i (call ∷ calls) = do
  eval_call next (record { f = f; i = i }) (designated program call)
  exec_from program next f (suc i) calls

-- a function's body is executed between the events of its entry and of its end
abbrev pub enter : Program → (Task → Part (Unit {0})) → Option Site → ℕ → Option Function → Part (Unit {0})
enter program next site g None = stop NoBody
enter program next site g (Some function) = do
  act ← new_act
  tell (Enter site g act)
  exec_from program next g 0 function.calls
  tell (Leave None act)

abbrev pub perform : Program → (Task → Part (Unit {0})) → Task → Part (Unit {0})
perform program next (Enters site g) = enter program next site g (slice_get program g)

-- A task takes a turn and is performed. No more than k turns are left: with each task inside a task k is one less, so
-- that this is defined for every program.
abbrev pub runs : Program → (k : ℕ) → Task → Part (Unit {0})
runs program zero task = stop TurnsOut
runs program (suc k) task = takes_turn (perform program (runs program k) task)

-- a test's calls of functions, in order
abbrev pub run_calls : Program → ℕ → List ℕ → Part (Unit {0})
run_calls program k [] = give tt
run_calls program k (call ∷ calls) = do
  runs program k (Enters None call)
  run_calls program k calls

-- what a run tells
pub record Told : Type 0 where
  pub events : List Event
  pub end : End

-- A run of the program: static initialisation, which does nothing here, and then these calls in order, with so many
-- turns.
abbrev pub run : Program → (calls : List ℕ) → (turns : ℕ) → Told
run program calls turns =
    let whole = run_calls program turns calls (record { turns = turns; next_act = 1 }) in
    record { events = events_of whole; end = end_of whole }
