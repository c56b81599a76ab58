-- How the runs of a whole program end.
use Rattle.std.proofs.Common.{◌≡◌, ℕ, zero, suc, ◌+◌, ◌<◌, List, [], ◌∷◌, length, Option, Some, None, refl, sym, ap, ◌∙◌, subst, arith, inl, inr}
use Rattle.std.specs.Prelude.{slice_get, ◌⊎◌, All, map, option_map}
use Rattle.std.proofs.lemmas.Option.{slice_get-get_or, slice_get_within, get_or_from_slice_get, slice_get-map, same_Some}
use Rattle.cc_first_runs.specs.Program.{Name, Function, Program, IsFunction}
use Rattle.cc_first_runs.specs.Events.{Site, Leave, End, Done, TurnsOut}
use Rattle.cc_first_runs.specs.Parts.{State, Run, Then, Goes, Stops, Part, go_on, ◌>>◌, tell, turn_of, end_of}
use Rattle.cc_first_runs.specs.Runs.{Task, Enters, designated, eval_call, exec_from, enter, runs, run_calls}
use Rattle.cc_first_runs.specs.Laws.{HasBody, HasBodies, WholeProgramsEnd}
use Rattle.cc_first_runs.proofs.Along.{none_past}
use Rattle.cc_first_runs.proofs.Names.{HasName, designated_has_name, named_designates}

abbrev IsEnd : End → Type 0
IsEnd end = (end ≡ Done) ⊎ (end ≡ TurnsOut)

-- a part that ends the run only for want of turns
pub record EndsSo {A : Type 0} (part : Part A) : Type 0 where
  by : (state : State) → IsEnd (end_of (part state))

go_on_ends : {A B : Type 0} (r : Run A) (f : A → Part B) → IsEnd (end_of r) → ((x : A) → EndsSo (f x)) → IsEnd (end_of (go_on r f))
go_on_ends (Then event rest) f h g = go_on_ends rest f h g
go_on_ends (Goes value state) f h g = (g value).by state
go_on_ends (Stops end) f h g = h

and_so : {A B : Type 0} (m : Part A) (n : Part B) → EndsSo m → EndsSo n → EndsSo (m >> n)
and_so m n h g = record { by = λ state. go_on_ends (m state) (λ x. n) (h.by state) (λ x. g) }

all_at : {X : Type 0} (P : X → Type 0) (xs : List X) (i : ℕ) (x : X) → All P xs → slice_get xs i ≡ Some x → P x
all_at P xs i x all at = subst P (get_or_from_slice_get xs i x x at) (all i x (slice_get_within xs i x at))

-- a name among those of the bodies is the name of one
named_at : (program : Program) (name : Name) (g : ℕ) (o : Option Function) → slice_get program g ≡ o → option_map (λ (function : Function). function.head.text) o ≡ Some name.text → HasName program g name
named_at program name g None at named = absurd cc
named_at program name g (Some callee) at named = record { callee = callee; is_callee = at; named = same_Some _ _ named }

has_callee : (program : Program) (name : Name) → HasBody program name → (g : ℕ) × HasName program g name
has_callee program name c =
    let heads = map (λ (callee : Function). callee.head.text) program in
    let at : slice_get heads c.0 ≡ Some name.text = slice_get-get_or heads c.0 name.text c.1 ∙ ap Some c.2 in
    (c.0, named_at program name c.0 (slice_get program c.0) refl (sym (slice_get-map (λ (callee : Function). callee.head.text) program c.0) ∙ at))

module _ (program : Program) (has : HasBodies program) where
  abbrev CallsEnd : (Task → Part (Unit {0})) → Type 0
  CallsEnd next = (site : Option Site) (g : ℕ) → g < length program → EndsSo (next (Enters site g))

  module _ (next : Task → Part (Unit {0})) (h : CallsEnd next) (f : ℕ) (function : Function) (is : IsFunction program f function) where
    call_ends : (site : Site) (i : ℕ) (call : Name) → slice_get function.calls i ≡ Some call → (o : Option ℕ) → designated program call ≡ o → EndsSo (eval_call next site o)
    call_ends site i call at None e =
        let calls = all_at (λ (f : Function). All (HasBody program) f.calls) program f function has is in
        let named = has_callee program call (all_at (HasBody program) function.calls i call calls at) in
        absurd (named_designates program call named.0 named.1 e)
    call_ends site i call at (Some g) e =
        let callee : HasName program g call = designated_has_name program function call g e in
        h (Some site) g (slice_get_within program g callee.callee callee.is_callee)

    body_ends : (i : ℕ) (calls : List Name) → ((k : ℕ) → slice_get calls k ≡ slice_get function.calls (i + k)) → EndsSo (exec_from program next f i calls)
    body_ends i [] same = record { by = λ state. inl refl }
    body_ends i (call ∷ calls) same =
        let at : slice_get function.calls i ≡ Some call = ap (slice_get function.calls) (omega arith) ∙ sym (same 0) in
        and_so _ _ (call_ends (record { f = f; i = i }) i call at (designated program call) refl)
        (body_ends (suc i) calls (λ k. same (suc k) ∙ ap (slice_get function.calls) (omega arith)))

  enter_ends : (next : Task → Part (Unit {0})) → CallsEnd next → (site : Option Site) (g : ℕ) → g < length program → (o : Option Function) → slice_get program g ≡ o → EndsSo (enter program next site g o)
  enter_ends next h site g below None at = absurd (let past = none_past program g at in omega arith)
  enter_ends next h site g below (Some function) at =
      let body = body_ends next h g function at 0 function.calls (λ k. ap (slice_get function.calls) (omega arith)) in
      record { by = λ state. (and_so (exec_from program next g 0 function.calls) (tell (Leave None state.next_act)) body (record { by = λ later. inl refl })).by (record state { next_act = suc state.next_act }) }

  turn_ends : {A : Type 0} (turns : ℕ) (m : Part A) → EndsSo m → EndsSo (turn_of turns m)
  turn_ends zero m h = record { by = λ state. inr refl }
  turn_ends (suc turns) m h = record { by = λ state. h.by (record state { turns = turns }) }

  runs_end : (k : ℕ) → CallsEnd (runs program k)
  runs_end zero site g below = record { by = λ state. inr refl }
  runs_end (suc k) site g below =
      record { by = λ state. (turn_ends state.turns _ (enter_ends (runs program k) (runs_end k) site g below (slice_get program g) refl)).by state }

  test_ends : (k : ℕ) (calls : List ℕ) → All (λ call. call < length program) calls → EndsSo (run_calls program k calls)
  test_ends k [] are = record { by = λ state. inl refl }
  test_ends k (call ∷ calls) are = and_so _ _ (runs_end k None call (are 0 call (omega arith))) (test_ends k calls (λ i d lt. are (suc i) d (omega arith)))

pub whole_programs_end : WholeProgramsEnd
whole_programs_end program has calls are turns = (test_ends program has turns calls are).by (record { turns = turns; next_act = 1 })
