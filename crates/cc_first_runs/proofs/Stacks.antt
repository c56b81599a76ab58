-- What the code's stack does is what is left to do.
use Rattle.std.proofs.Common.{◌≡◌, ℕ, zero, suc, ◌+◌, ◌-◌, ◌<◌, ◌≤◌, List, [], ◌∷◌, ◌++◌, length, Option, Some, None, refl, sym, ap, ◌∙◌, subst, arith, drop, reverse, get_or, Bor, append-nil}
use Rattle.std.specs.Prelude.{Bool, cond, not, nat_lt, map, position, bytes_eq, slice_get, option_map}
use Rattle.std.specs.List.{prefix_len, position_or_len}
use Rattle.std.proofs.lemmas.List.{reverse-append, length-append, length-reverse, length-map, drop_more, drop_all}
use Rattle.std.proofs.lemmas.Option.{slice_get-map, slice_get_read, slice_get_past}
use Rattle.cc_first_runs.specs.Program.{Name, Function, Program}
use Rattle.cc_first_runs.specs.Events.{Site, Event, Enter, Leave, End, Done, TurnsOut, NoBody}
use Rattle.cc_first_runs.specs.Parts.{State, Run, Then, Goes, Stops, Part, go_on, ◌>>◌, tell, turn_of, events_of, end_of}
use Rattle.cc_first_runs.specs.Runs.{Enters, designated, eval_call, exec_from, enter, perform, runs, run_calls, run}
use Rattle.cc_first_runs.specs.declared.machine.Frame.{Frame}
use Rattle.cc_first_runs.specs.declared.machine.Machine.{Machine}
use Rattle.cc_first_runs.specs.declared.machine.Function as code
use Rattle.cc_first_runs.specs.Stacks.{name_of, function_view, program_view, calls_of, call_at, CallsNext, IsEntered, state_of, prepend, left_of, run_from, GoesOn, Calls, IsCalling, IsTesting, told_view}
use Rattle.cc_first_runs.specs.Stacks as stack
use Rattle.cc_first_runs.specs.declared.machine.Told as code_told
use Rattle.cc_first_runs.proofs.Turns.{same_told}

go_on_on : {A B C : Type 0} (r : Run A) (f : A → Part B) (g : B → Part C) → go_on (go_on r f) g ≡ go_on r (λ x s. go_on (f x s) g)
go_on_on (Then event rest) f g = ap (Then event) (go_on_on rest f g)
go_on_on (Goes value state) f g = refl
go_on_on (Stops end) f g = refl

-- one event more
prepend_one : (events : List Event) (event : Event) (r : Run (Unit {0})) → prepend (events ++ event ∷ []) r ≡ prepend events (Then event r)
prepend_one [] event r = refl
prepend_one (e ∷ events) event r = ap (Then e) (prepend_one events event r)

pub events_prepend : (events : List Event) (r : Run (Unit {0})) → events_of (prepend events r) ≡ events ++ events_of r
events_prepend [] r = refl
events_prepend (e ∷ events) r = ap (λ es. e ∷ es) (events_prepend events r)

pub end_prepend : (events : List Event) (r : Run (Unit {0})) → end_of (prepend events r) ≡ end_of r
end_prepend [] r = refl
end_prepend (e ∷ events) r = end_prepend events r

reverse_push : {X : Type 0} (xs : List X) (x : X) → reverse (xs ++ x ∷ []) ≡ x ∷ reverse xs
reverse_push xs x = reverse-append xs (x ∷ [])

-- an item of a list stands before what follows it
drop_at : {X : Type 0} (xs : List X) (i : ℕ) (x : X) → slice_get xs i ≡ Some x → drop i xs ≡ x ∷ drop (suc i) xs
drop_at [] i x at = absurd cc
drop_at (y ∷ xs) zero x at = let same : Some y ≡ Some x = at in cc
drop_at (y ∷ xs) (suc i) x at = drop_at xs i x at

drop_past : {X : Type 0} (xs : List X) (i : ℕ) → slice_get xs i ≡ None → drop i xs ≡ []
drop_past [] zero at = refl
drop_past [] (suc i) at = refl
drop_past (x ∷ xs) zero at = absurd cc
drop_past (x ∷ xs) (suc i) at = drop_past xs i at

-- names are designated alike in the code
prefix_len-map : {X Y : Type 0} (test : Y → Bool) (view : X → Y) (xs : List X) → prefix_len test (map view xs) ≡ prefix_len (λ x. test (view x)) xs
prefix_len-map test view [] = refl
prefix_len-map test view (x ∷ xs) = ap (λ n. cond (test (view x)) (1 + n) 0) (prefix_len-map test view xs)

position-map : {X Y : Type 0} (test : Y → Bool) (view : X → Y) (xs : List X) → position test (map view xs) ≡ position (λ x. test (view x)) xs
position-map test view xs =
    ap (λ n. cond (nat_lt n (length (map view xs))) (Some n) None) (prefix_len-map (λ y. not (test y)) view xs)
    ∙ ap (λ m. cond (nat_lt (position_or_len (λ x. test (view x)) xs) m) (Some (position_or_len (λ x. test (view x)) xs)) None) (length-map xs view)

pub designated_in_code : (program : List code.Function) (text : List ℕ) → position (λ (function : code.Function). bytes_eq function.name.now text) program ≡ designated (program_view program) (name_of text)
designated_in_code program text = sym (position-map (λ (function : Function). bytes_eq function.head.text text) function_view program)

-- what the code reads as the next call of a frame
pub call_in_code : (program : List code.Function) (frame : Frame) (function : code.Function) (calls : List (Bor (List ℕ))) (name : Bor (List ℕ)) → frame.function < length program → function ≡ get_or program frame.function function → calls ≡ function.calls.items → frame.next < length calls → name ≡ get_or calls frame.next name → call_at (program_view program) frame ≡ Some (name_of name.now)
call_in_code program frame function calls name below is calls_are within named =
    let at : slice_get (program_view program) frame.function ≡ Some (function_view function) =
    slice_get-map function_view program frame.function ∙ ap (option_map function_view) (slice_get_read program (length program) frame.function function refl below is) in
    let here : slice_get function.calls.items frame.next ≡ Some name = subst (λ xs. slice_get xs frame.next ≡ Some name) calls_are (slice_get_read calls (length calls) frame.next name refl within named) in
    ap (λ o. slice_get (calls_of o) frame.next) at
    ∙ slice_get-map (λ (text : Bor (List ℕ)). name_of text.now) function.calls.items frame.next
    ∙ ap (option_map (λ (text : Bor (List ℕ)). name_of text.now)) here

module _ (program : Program) where
  -- a function to be entered: no turn is left, it has no body, or it is entered
  no_turn : (k : ℕ) (site : Option Site) (g : ℕ) (turns act : ℕ) → turns ≡ 0 → runs program k (Enters site g) (record { turns = turns; next_act = act }) ≡ Stops TurnsOut
  no_turn zero site g turns act none = refl
  no_turn (suc k) site g turns act none = ap (λ t. turn_of t (perform program (runs program k) (Enters site g)) (record { turns = turns; next_act = act })) none

  no_function : (k : ℕ) (site : Option Site) (g : ℕ) (turns act : ℕ) → 0 < turns → turns ≤ k → slice_get program g ≡ None → runs program k (Enters site g) (record { turns = turns; next_act = act }) ≡ Stops NoBody
  no_function k site g zero act some le at = absurd (omega arith)
  no_function zero site g (suc turns) act some le at = absurd (omega arith)
  no_function (suc k) site g (suc turns) act some le at = ap (λ o. enter program (runs program k) site g o (record { turns = turns; next_act = act })) at

  -- what is left of a function that has been entered
  body_left : (k g act : ℕ) → Part (Unit {0})
  body_left k g act = exec_from program (runs program k) g 0 (calls_of (slice_get program g)) >> tell (Leave None act)

  entered : (k : ℕ) (site : Option Site) (g : ℕ) (turns act : ℕ) (function : Function) → slice_get program g ≡ Some function → runs program (suc k) (Enters site g) (record { turns = suc turns; next_act = act }) ≡ Then (Enter site g act) (body_left k g act (record { turns = turns; next_act = suc act }))
  unfolding body_left
  entered k site g turns act function at =
      let s : State = record { turns = turns; next_act = suc act } in
      ap (λ o. enter program (runs program k) site g o (record { turns = turns; next_act = act })) at
      ∙ ap (λ (calls : List Name). Then (Enter site g act) ((exec_from program (runs program k) g 0 calls >> tell (Leave None act)) s)) (sym (ap calls_of at))

  -- the frame has no call left
  frame_ends : (k : ℕ) (last : Part (Unit {0})) (frame : Frame) (frames : List Frame) (state : State) → call_at program frame ≡ None → left_of program k (frame ∷ frames) last state ≡ Then (Leave None frame.act) (left_of program k frames last state)
  frame_ends k last frame frames state at =
      ap (λ (calls : List Name). go_on (exec_from program (runs program (k - suc (length frames))) frame.function frame.next calls state) (λ x. tell (Leave None frame.act) >> left_of program k frames last))
      (drop_past (calls_of (slice_get program frame.function)) frame.next at)

  -- the frame has a call: it is made, and then the rest is left
  frame_calls : (k : ℕ) (last : Part (Unit {0})) (frame : Frame) (frames : List Frame) (state : State) (name : Name) (o : Option ℕ) → call_at program frame ≡ Some name → designated program name ≡ o → left_of program k (frame ∷ frames) last state ≡ go_on (eval_call (runs program (k - suc (length frames))) (record { f = frame.function; i = frame.next }) o state) (λ x. left_of program k (record { function = frame.function; next = suc frame.next; act = frame.act } ∷ frames) last)
  frame_calls k last frame frames state name o at is =
      let next = runs program (k - suc (length frames)) in
      let calls = calls_of (slice_get program frame.function) in
      let site : Site = record { f = frame.function; i = frame.next } in
      ap (λ (calls : List Name). go_on (exec_from program next frame.function frame.next calls state) (λ x. tell (Leave None frame.act) >> left_of program k frames last))
      (drop_at calls frame.next name at)
      ∙ ap (λ (o : Option ℕ). go_on (go_on (eval_call next site o state) (λ x. exec_from program next frame.function (suc frame.next) (drop (suc frame.next) calls))) (λ x. tell (Leave None frame.act) >> left_of program k frames last)) is
      ∙ go_on_on (eval_call next site o state) (λ x. exec_from program next frame.function (suc frame.next) (drop (suc frame.next) calls)) (λ x. tell (Leave None frame.act) >> left_of program k frames last)

  -- the calls of a frame behind its next one
  abbrev behind_call : Frame → Frame
  behind_call frame = record { function = frame.function; next = suc frame.next; act = frame.act }

  -- where a function is entered from a call, the rest of its caller is left too
  enters_frame : (k g act turns : ℕ) (site : Option Site) (last : Part (Unit {0})) (frames : List Frame) (function : Function) → slice_get program g ≡ Some function → suc turns + length frames ≤ k → go_on (runs program (k - length frames) (Enters site g) (record { turns = suc turns; next_act = act })) (λ x. left_of program k frames last) ≡ Then (Enter site g act) (left_of program k (record { function = g; next = 0; act = act } ∷ frames) last (record { turns = turns; next_act = suc act }))
  unfolding body_left
  enters_frame k g act turns site last frames function at room =
      let less : k - length frames ≡ suc (k - suc (length frames)) = omega arith in
      let next = runs program (k - suc (length frames)) in
      let s : State = record { turns = turns; next_act = suc act } in
      ap (λ n. go_on (runs program n (Enters site g) (record { turns = suc turns; next_act = act })) (λ x. left_of program k frames last)) less
      ∙ ap (λ r. go_on r (λ x. left_of program k frames last)) (entered (k - suc (length frames)) site g turns act function at)
      ∙ ap (Then (Enter site g act)) (go_on_on (exec_from program next g 0 (calls_of (slice_get program g)) s) (λ x. tell (Leave None act)) (λ x. left_of program k frames last))

some_at : {X : Type 0} (xs : List X) (i : ℕ) → i < length xs → (x : X) × (slice_get xs i ≡ Some x)
some_at [] i below = absurd (omega arith)
some_at (x ∷ xs) zero below = (x, refl)
some_at (x ∷ xs) (suc i) below = some_at xs i (omega arith)

module _ (program : Program) (size : ℕ) (size_is : size ≡ length program) where
  -- what `enter` did, over frames of which `frames` is the list from the last one on
  enter_goes : (k : ℕ) (last : Part (Unit {0})) (site : Option Site) (callee : ℕ) (m new : Machine) (frames : List Frame) → reverse m.frames.items ≡ frames → m.turns + length frames ≤ k → (end : Option End) → stack.Enters size site callee m end new → prepend m.events.items (go_on (runs program (k - length frames) (Enters site callee) (state_of m)) (λ x. left_of program k frames last)) ≡ run_from program k last end new
  enter_goes k last site callee m new frames is room None h =
      let frame : Frame = record { function = callee; next = 0; act = m.next_act } in
      let s : State = record { turns = new.turns; next_act = suc m.next_act } in
      let turns_are = h.turns in
      let function = some_at program callee (omega (arith, h.known)) in
      let frames_are : reverse new.frames.items ≡ frame ∷ frames = ap reverse h.frames ∙ reverse_push m.frames.items frame ∙ ap (λ fs. frame ∷ fs) is in
      ap (λ t. prepend m.events.items (go_on (runs program (k - length frames) (Enters site callee) (record { turns = t; next_act = m.next_act })) (λ x. left_of program k frames last))) h.turns
      ∙ ap (prepend m.events.items) (enters_frame program k callee m.next_act new.turns site last frames function.0 function.1 (omega arith))
      ∙ sym (prepend_one m.events.items (Enter site callee m.next_act) (left_of program k (frame ∷ frames) last s))
      ∙ ap (λ es. prepend es (left_of program k (frame ∷ frames) last s)) (sym h.events)
      ∙ ap (λ fs. prepend new.events.items (left_of program k fs last s)) (sym frames_are)
      ∙ ap (λ a. prepend new.events.items (left_of program k (reverse new.frames.items) last (record { turns = new.turns; next_act = a }))) (sym h.next_act)
  enter_goes k last site callee m new frames is room (Some Done) h = absurd h
  enter_goes k last site callee m new frames is room (Some TurnsOut) h =
      ap (λ r. prepend m.events.items (go_on r (λ x. left_of program k frames last))) (no_turn program (k - length frames) site callee m.turns m.next_act h.0)
      ∙ ap (λ es. prepend es (Stops TurnsOut)) (sym h.1)
  enter_goes k last site callee m new frames is room (Some NoBody) h =
      let past : length program ≤ callee = omega (arith, h.1) in
      ap (λ r. prepend m.events.items (go_on r (λ x. left_of program k frames last))) (no_function program (k - length frames) site callee m.turns m.next_act h.0 (omega arith) (slice_get_past program callee past))
      ∙ ap (λ es. prepend es (Stops NoBody)) (sym h.2)

  -- the activation of the frame ends
  pub over_goes : (old new : Machine) (frame : Frame) → call_at program frame ≡ None → new.turns ≡ old.turns → new.next_act ≡ old.next_act → new.frames.items ≡ old.frames.items → new.events.items ≡ old.events.items ++ Leave None frame.act ∷ [] → GoesOn program frame old None new
  over_goes old new frame at turns acts frames events k last room =
      let rest = left_of program k (reverse old.frames.items) last in
      ap (prepend old.events.items) (frame_ends program k last frame (reverse old.frames.items) (state_of old) at)
      ∙ sym (prepend_one old.events.items (Leave None frame.act) (rest (state_of old)))
      ∙ ap (λ es. prepend es (rest (state_of old))) (sym events)
      ∙ ap (λ fs. prepend new.events.items (left_of program k (reverse fs) last (state_of old))) (sym frames)
      ∙ ap (λ s. prepend new.events.items (left_of program k (reverse new.frames.items) last s)) (λ i. record { turns = (sym turns) i; next_act = (sym acts) i })

  -- it calls a name that has no body
  pub no_body_goes : (old new : Machine) (frame : Frame) → CallsNext program frame None → new.events.items ≡ old.events.items → GoesOn program frame old (Some NoBody) new
  no_body_goes old new frame h events k last room =
      ap (prepend old.events.items) (frame_calls program k last frame (reverse old.frames.items) (state_of old) h.name None h.called h.designates)
      ∙ ap (λ es. prepend es (Stops NoBody)) (sym events)

  -- it calls a function: `mid` has the frame again, behind its call
  pub callee_goes : (old mid new : Machine) (frame : Frame) (callee : ℕ) → CallsNext program frame (Some callee) → mid.turns ≡ old.turns → mid.next_act ≡ old.next_act → mid.events.items ≡ old.events.items → mid.frames.items ≡ old.frames.items ++ record { function = frame.function; next = suc frame.next; act = frame.act } ∷ [] → (end : Option End) → stack.Enters size (Some (record { f = frame.function; i = frame.next })) callee mid end new → GoesOn program frame old end new
  callee_goes old mid new frame callee h turns acts events frames end entered k last room =
      let behind : Frame = record { function = frame.function; next = suc frame.next; act = frame.act } in
      let site : Option Site = Some (record { f = frame.function; i = frame.next }) in
      let all : List Frame = behind ∷ reverse old.frames.items in
      let long = length-reverse old.frames.items in
      let what : State → Run (Unit {0}) = λ s. go_on (runs program (k - length all) (Enters site callee) s) (λ x. left_of program k all last) in
      ap (prepend old.events.items) (frame_calls program k last frame (reverse old.frames.items) (state_of old) h.name (Some callee) h.called h.designates)
      ∙ ap (λ s. prepend old.events.items (what s)) (λ i. record { turns = (sym turns) i; next_act = (sym acts) i })
      ∙ ap (λ es. prepend es (what (state_of mid))) (sym events)
      ∙ enter_goes k last site callee mid new all (ap reverse frames ∙ reverse_push old.frames.items behind) (omega arith) end entered

  -- a test's call enters its function
  pub call_goes : (old new : Machine) (callee : ℕ) → old.frames.items ≡ [] → (end : Option End) → stack.Enters size None callee old end new → Calls program callee old end new
  call_goes old new callee empty end entered k last room =
      ap (λ n. prepend old.events.items (go_on (runs program n (Enters None callee) (state_of old)) (λ x. last))) (omega arith)
      ∙ enter_goes k last None callee old new [] (ap reverse empty) (omega arith) end entered

-- a frame is taken from the stack, and its activation goes on
pub frame_goes : (program : Program) (callee : ℕ) (first m popped new : Machine) (frame : Frame) (end : Option End) → Calls program callee first None m → m.turns + length m.frames.items ≤ first.turns → popped.turns ≡ m.turns → popped.next_act ≡ m.next_act → popped.events.items ≡ m.events.items → m.frames.items ≡ popped.frames.items ++ frame ∷ [] → GoesOn program frame popped end new → Calls program callee first end new
frame_goes program callee first m popped new frame end calls room turns acts events frames goes k last le =
    let long = length-append popped.frames.items (frame ∷ []) in
    let longer = ap length frames in
    calls k last le
    ∙ ap (λ fs. prepend m.events.items (left_of program k fs last (state_of m))) (ap reverse frames ∙ reverse_push popped.frames.items frame)
    ∙ ap (λ s. prepend m.events.items (left_of program k (frame ∷ reverse popped.frames.items) last s)) (λ i. record { turns = (sym turns) i; next_act = (sym acts) i })
    ∙ ap (λ es. prepend es (left_of program k (frame ∷ reverse popped.frames.items) last (state_of popped))) (sym events)
    ∙ goes k last (omega arith)

-- the stack after a test's call has entered its function
pub call_starts : (program : Program) (size : ℕ) → size ≡ length program → (old new : Machine) (callee : ℕ) → old.frames.items ≡ [] → stack.Enters size None callee old None new → IsCalling program callee old new
call_starts program size size_is old new callee empty entered =
    let longer = ap length entered.frames in
    let long = length-append old.frames.items (record { function = callee; next = 0; act = old.next_act } ∷ []) in
    let none = ap length empty in
    let turns = entered.turns in
    record { does = call_goes program size size_is old new callee empty None entered; room = omega arith }

-- and after one of its activations has gone on
pub frame_stays : (program : Program) (callee : ℕ) (first m popped new : Machine) (frame : Frame) → IsCalling program callee first m → popped.turns ≡ m.turns → popped.next_act ≡ m.next_act → popped.events.items ≡ m.events.items → m.frames.items ≡ popped.frames.items ++ frame ∷ [] → GoesOn program frame popped None new → new.turns + length new.frames.items ≤ popped.turns + (length popped.frames.items + 1) → IsCalling program callee first new
frame_stays program callee first m popped new frame is turns acts events frames goes room =
    let longer = ap length frames in
    let long = length-append popped.frames.items (frame ∷ []) in
    let before = is.room in
    record { does = frame_goes program callee first m popped new frame None is.does is.room turns acts events frames goes; room = omega arith }

-- what a run told that has ended
told_run : (program : Program) (calls : List ℕ) (turns : ℕ) (events : List Event) (end : End) (r : Run (Unit {0})) → run_calls program turns calls (record { turns = turns; next_act = 1 }) ≡ prepend events r → events_of r ≡ [] → end_of r ≡ end → (told : code_told.Told) → told.events.items ≡ events → told.end ≡ end → told_view told ≡ run program calls turns
told_run program calls turns events end r whole none ends told same_events same_end =
    same_told (told_view told) (run program calls turns)
    (same_events ∙ sym (ap events_of whole ∙ events_prepend events r ∙ ap (λ es. events ++ es) none ∙ append-nil events))
    (same_end ∙ sym (ap end_of whole ∙ end_prepend events r ∙ ends))

-- in one of the test's calls
pub call_ends : (program : Program) (calls : List ℕ) (turns i : ℕ) (m new : Machine) (end : End) → IsTesting program calls (drop i calls) turns m → i < length calls → Calls program (get_or calls i 0) m (Some end) new → (told : code_told.Told) → told.events.items ≡ new.events.items → told.end ≡ end → told_view told ≡ run program calls turns
call_ends program calls turns i m new end is below does told same_events same_end =
    let whole =
    is.does
    ∙ ap (λ rest. prepend m.events.items (run_calls program turns rest (state_of m))) (drop_more calls i 0 below)
    ∙ does turns (run_calls program turns (drop (i + 1) calls)) is.room in
    told_run program calls turns new.events.items end (Stops end) whole refl refl told same_events same_end

-- behind all of them
pub test_ends : (program : Program) (calls : List ℕ) (turns i : ℕ) (m : Machine) → IsTesting program calls (drop i calls) turns m → length calls ≤ i → (told : code_told.Told) → told.events.items ≡ m.events.items → told.end ≡ Done → told_view told ≡ run program calls turns
test_ends program calls turns i m is past told same_events same_end =
    let whole = is.does ∙ ap (λ rest. prepend m.events.items (run_calls program turns rest (state_of m))) (drop_all i calls past) in
    told_run program calls turns m.events.items Done (Goes tt (state_of m)) whole refl refl told same_events same_end
