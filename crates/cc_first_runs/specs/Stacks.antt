-- How the code runs a program, with a stack of the activations that have begun.
use Rattle.std.specs.Prelude.{◌≡◌, ◌<◌, ◌≤◌, ◌+◌, ◌-◌, ◌^◌, ◌++◌, ℕ, suc, List, [], ◌∷◌, Option, Some, None, slice_get, map, length, drop, reverse}
use Rattle.cc_base.specs.Spots.{start}
use Rattle.cc_first_runs.specs.Program as tree
use Rattle.cc_first_runs.specs.Events.{Site, Event, Enter, Leave, End, Done, TurnsOut, NoBody}
use Rattle.cc_first_runs.specs.Parts.{State, Run, Then, Stops, Part, go_on, ◌>>◌, tell}
use Rattle.cc_first_runs.specs.Runs as meaning
use Rattle.cc_first_runs.specs.declared.machine.Function.{Function}
use Rattle.cc_first_runs.specs.declared.machine.Told.{Told}
use Rattle.cc_first_runs.specs.declared.machine.Frame.{Frame}
use Rattle.cc_first_runs.specs.declared.machine.Machine.{Machine}
use Rattle.cc_first_runs.specs.declared.machine.Next.{Next}
use Rattle.cc_first_runs.specs.declared.machine.Next.TheVariants.{Over, Callee}
use Rattle.cc_first_runs.specs.declared.machine.Next.TheVariants.{NoBody as NoCallee}

-- a name, wherever it stands
abbrev pub name_of : List ℕ → tree.Name
name_of text = record { text = text; spot = start }

abbrev pub function_view : Function → tree.Function
function_view function = record {
  head = name_of function.name.now;
  file = function.file;
  calls = map (λ name. name_of name.now) function.calls.items;
}

abbrev pub program_view : List Function → tree.Program
program_view program = map function_view program

abbrev pub told_view : Told → meaning.Told
told_view told = record { events = told.events.items; end = told.end }

-- the names that a function calls
abbrev pub calls_of : Option tree.Function → List tree.Name
calls_of None = []
calls_of (Some function) = function.calls

-- the calls that are left to a frame, and the first of them
abbrev pub calls_left : tree.Program → Frame → List tree.Name
calls_left program frame = drop frame.next (calls_of (slice_get program frame.function))

abbrev pub call_at : tree.Program → Frame → Option tree.Name
call_at program frame = slice_get (calls_of (slice_get program frame.function)) frame.next

-- the frame's activation calls this function next
pub record CallsNext (program : tree.Program) (frame : Frame) (callee : Option ℕ) : Type 0 where
  pub name : tree.Name
  pub called : call_at program frame ≡ Some name
  pub designates : meaning.designated program name ≡ callee
  pub small : frame.next + 1 < 2 ^ 64

-- what the frame's activation does next
abbrev pub NextIs : tree.Program → Frame → Next → Type 0
NextIs program frame Over = call_at program frame ≡ None
NextIs program frame NoCallee = CallsNext program frame None
NextIs program frame (Callee callee) = CallsNext program frame (Some callee)

-- a function was entered
pub record IsEntered (size : ℕ) (site : Option Site) (callee : ℕ) (old new : Machine) : Type 0 where
  pub known : callee < size
  pub turns : old.turns ≡ suc new.turns
  pub next_act : new.next_act ≡ suc old.next_act
  pub events : new.events.items ≡ old.events.items ++ Enter site callee old.next_act ∷ []
  pub frames : new.frames.items ≡ old.frames.items ++ record { function = callee; next = 0; act = old.next_act } ∷ []

-- a function was entered, or the run has ended before
abbrev pub Enters : (size : ℕ) → Option Site → ℕ → (old : Machine) → Option End → (new : Machine) → Type 0
Enters size site callee old None new = IsEntered size site callee old new
Enters size site callee old (Some Done) new = ⊥
Enters size site callee old (Some TurnsOut) new = (old.turns ≡ 0) × (new.events.items ≡ old.events.items)
Enters size site callee old (Some NoBody) new = (0 < old.turns) × (size ≤ callee) × (new.events.items ≡ old.events.items)

abbrev pub state_of : Machine → State
state_of machine = record { turns = machine.turns; next_act = machine.next_act }

-- a run behind these events
abbrev pub prepend : List Event → Run (Unit {0}) → Run (Unit {0})
prepend [] run = run
prepend (event ∷ events) run = Then event (prepend events run)

-- What is left to do of the activations, the last one first, and then `last`. Each of them has taken a turn of the k
-- turns of the run.
abbrev pub left_of : tree.Program → (k : ℕ) → List Frame → (last : Part (Unit {0})) → Part (Unit {0})
left_of program k [] last = last
left_of program k (frame ∷ frames) last = do
  meaning.exec_from program (meaning.runs program (k - length (frame ∷ frames))) frame.function frame.next (calls_left program frame)
  tell (Leave None frame.act)
  left_of program k frames last

-- the run from where the machine is, or its end
abbrev pub run_from : tree.Program → (k : ℕ) → (last : Part (Unit {0})) → Option End → Machine → Run (Unit {0})
run_from program k last None machine = prepend machine.events.items (left_of program k (reverse machine.frames.items) last (state_of machine))
run_from program k last (Some end) machine = prepend machine.events.items (Stops end)

-- the machine has done a part of what was left to do, with the frame above the others
abbrev pub GoesOn : tree.Program → Frame → (old : Machine) → Option End → (new : Machine) → Type 0
GoesOn program frame old end new =
    (k : ℕ) (last : Part (Unit {0})) → old.turns + (length old.frames.items + 1) ≤ k
    → prepend old.events.items (left_of program k (frame ∷ reverse old.frames.items) last (state_of old)) ≡ run_from program k last end new

-- the machine has done a test's call
abbrev pub Calls : tree.Program → (callee : ℕ) → (old : Machine) → Option End → (new : Machine) → Type 0
Calls program callee old end new =
    (k : ℕ) (last : Part (Unit {0})) → old.turns ≤ k
    → prepend old.events.items (go_on (meaning.runs program k (meaning.Enters None callee) (state_of old)) (λ value. last)) ≡ run_from program k last end new

-- so far the machine has done a test's call; each activation that has begun has taken a turn
pub record IsCalling (program : tree.Program) (callee : ℕ) (first now : Machine) : Type 0 where
  pub does : Calls program callee first None now
  pub room : now.turns + length now.frames.items ≤ first.turns

-- so far the machine has done the test's calls but these
pub record IsTesting (program : tree.Program) (calls rest : List ℕ) (turns : ℕ) (now : Machine) : Type 0 where
  pub does :
      meaning.run_calls program turns calls (record { turns = turns; next_act = 1 })
      ≡ prepend now.events.items (meaning.run_calls program turns rest (state_of now))
  pub empty : now.frames.items ≡ []
  pub room : now.turns ≤ turns
