-- From call to call of a test.
use Rattle.std.proofs.Common.{◌≡◌, ℕ, ◌+◌, List, [], ◌∷◌, ◌++◌, Some, None, refl, sym, ap, ◌∙◌, arith}
use Rattle.cc_meaning.specs.declared.event.Event.{Event}
use Rattle.cc_meaning.specs.declared.test.TestCall.{TestCall}
use Rattle.cc_acts.specs.declared.acts.Acts.{Acts}
use Rattle.cc_acts.specs.declared.state.State.{State}
use Rattle.cc_acts.specs.declared.stop.Stop.{Stop}
use Rattle.cc_acts.specs.declared.stop.Stop.TheVariants.{Lost}
use Rattle.cc_acts.specs.Runs.{Run, Goes, Stops, Part, go_on, ◌>>◌}
use Rattle.cc_acts.specs.Steps.{drive}
use Rattle.cc_interp_step.specs.declared.machine.Machine.{Machine}
use Rattle.cc_interp_step.specs.Progress.{config_of}
use Rattle.cc_interp.specs.Ran.{prepend, Ran, Begun}
use Rattle.cc_interp.specs.Tested.{RanSteps, BegunSteps, Called, calls_of}
use Rattle.cc_interp.specs.Tests.{run_calls, begin, drive_from}
use Rattle.cc_interp.proofs.Reach.{go_on_prepend, prepend_on, tells_on, tells_none}
use Rattle.cc_interp.proofs.Compose.{both_stop, then_second}

-- before the first call
pub called_none : (stands : List Event → Type 0) (G : Acts) (calls : List TestCall) (m : Machine) → m.outbox ≡ [] → Called stands stands G calls calls m.state m
called_none stands G calls m e = record { events = []; told = tells_none stands; steps = 0; leads = λ more. refl; empty = e }

module _ (G : Acts) (calls : List TestCall) (c : TestCall) (cs : List TestCall) (s : State) (m m' : Machine) (b : Some (config_of m') ≡ begin G c) (same : m'.state ≡ m.state) where
  -- the run of the call, with this many steps
  call_is : (n k : ℕ) → drive_from G (n + k) (begin G c) m.state ≡ drive G (n + k) (config_of m') m'.state
  call_is n k = ap (λ o. drive_from G (n + k) o m.state) (sym b) ∙ ap (drive G (n + k) (config_of m')) (sym same)

  pub next_call : (old mid new : List Event → Type 0) (m'' : Machine) → Called old mid G calls (c ∷ cs) s m → Ran mid new G m' None m'' → Called old new G calls cs s m''
  next_call old mid new m'' at r = record {
    events = at.events ++ r.events;
    told = tells_on old mid new at.events r.events at.told r.told;
    steps = at.steps + r.steps;
    leads = leads;
    empty = r.empty;
  }
    where
      leads : (more : ℕ) → run_calls G (at.steps + r.steps + more) calls s ≡ prepend (at.events ++ r.events) (run_calls G (at.steps + r.steps + more) cs m''.state)
      leads more =
          let one : at.steps + r.steps + more ≡ at.steps + (r.steps + more) = omega arith in
          let two : at.steps + r.steps + more ≡ r.steps + (at.steps + more) = omega arith in
          let T = at.steps + r.steps + more in
          let h : drive_from G T (begin G c) m.state ≡ prepend r.events (Goes tt m''.state) =
          ap (λ k. drive_from G k (begin G c) m.state) two ∙ call_is r.steps (at.steps + more) ∙ r.run_is (at.steps + more) in
          ap (λ k. run_calls G k calls s) one
          ∙ at.leads (r.steps + more)
          ∙ ap (λ k. prepend at.events (run_calls G k (c ∷ cs) m.state)) (sym one)
          ∙ ap (prepend at.events) (then_second (drive_from G T (begin G c)) (run_calls G T cs) m.state m''.state r.events h)
          ∙ prepend_on at.events r.events (run_calls G T cs m''.state)

  pub stopped_call : (old mid new : List Event → Type 0) (m'' : Machine) (why : Stop) → Called old mid G calls (c ∷ cs) s m → Ran mid new G m' (Some why) m'' → RanSteps old new (calls_of G calls) s (Some why) m''.state
  stopped_call old mid new m'' why at r = record {
    events = at.events ++ r.events;
    told = tells_on old mid new at.events r.events at.told r.told;
    steps = at.steps + r.steps;
    run_is = run_is;
  }
    where
      run_is : (more : ℕ) → run_calls G (at.steps + r.steps + more) calls s ≡ prepend (at.events ++ r.events) (Stops why)
      run_is more =
          let one : at.steps + r.steps + more ≡ at.steps + (r.steps + more) = omega arith in
          let two : at.steps + r.steps + more ≡ r.steps + (at.steps + more) = omega arith in
          let T = at.steps + r.steps + more in
          let h : drive_from G T (begin G c) m.state ≡ prepend r.events (Stops why) =
          ap (λ k. drive_from G k (begin G c) m.state) two ∙ call_is r.steps (at.steps + more) ∙ r.run_is (at.steps + more) in
          ap (λ k. run_calls G k calls s) one
          ∙ at.leads (r.steps + more)
          ∙ ap (λ k. prepend at.events (run_calls G k (c ∷ cs) m.state)) (sym one)
          ∙ ap (prepend at.events) (both_stop (drive_from G T (begin G c)) (run_calls G T cs) m.state r.events why h)
          ∙ prepend_on at.events r.events (Stops why)

  pub begun_call : (old mid new : List Event → Type 0) → Called old mid G calls (c ∷ cs) s m → Begun mid new G m' → BegunSteps old new (calls_of G calls) s
  begun_call old mid new at r = record {
    events = at.events ++ r.events;
    told = tells_on old mid new at.events r.events at.told r.told;
    steps = at.steps + r.steps;
    run_is = run_is;
  }
    where
      run_is : (more : ℕ) → (others : Run (Unit {0})) × (run_calls G (at.steps + r.steps + more) calls s ≡ prepend (at.events ++ r.events) others)
      run_is more =
          let one : at.steps + r.steps + more ≡ at.steps + (r.steps + more) = omega arith in
          let two : at.steps + r.steps + more ≡ r.steps + (at.steps + more) = omega arith in
          let T = at.steps + r.steps + more in
          let part = r.run_is (at.steps + more) in
          let rest : (x : Unit {0}) → Part (Unit {0}) = λ _. run_calls G T cs in
          let h : drive_from G T (begin G c) m.state ≡ prepend r.events part.0 =
          ap (λ k. drive_from G k (begin G c) m.state) two ∙ call_is r.steps (at.steps + more) ∙ part.1 in (
            go_on part.0 rest,
            ap (λ k. run_calls G k calls s) one
                ∙ at.leads (r.steps + more)
                ∙ ap (λ k. prepend at.events (run_calls G k (c ∷ cs) m.state)) (sym one)
                ∙ ap (λ q. prepend at.events (go_on q rest)) h
                ∙ ap (prepend at.events) (go_on_prepend r.events part.0 rest)
                ∙ prepend_on at.events r.events (go_on part.0 rest),
          )

-- a call of a function without an entry
pub lost_call : (old new : List Event → Type 0) (G : Acts) (calls : List TestCall) (c : TestCall) (cs : List TestCall) (s : State) (m m' : Machine) → Called old new G calls (c ∷ cs) s m → None ≡ begin G c → RanSteps old new (calls_of G calls) s (Some Lost) m'.state
lost_call old new G calls c cs s m m' at b = record {
  events = at.events;
  told = at.told;
  steps = at.steps;
  run_is = λ more. at.leads more ∙ ap (λ o. prepend at.events ((drive_from G (at.steps + more) o >> run_calls G (at.steps + more) cs) m.state)) (sym b);
}

-- all calls have returned
pub called_all : (old new : List Event → Type 0) (G : Acts) (calls : List TestCall) (s : State) (m : Machine) → Called old new G calls [] s m → RanSteps old new (calls_of G calls) s None m.state
called_all old new G calls s m at = record { events = at.events; told = at.told; steps = at.steps; run_is = at.leads }

-- where memory was wanting before a call
pub begun_calls : (old new : List Event → Type 0) (G : Acts) (calls rest : List TestCall) (s : State) (m : Machine) → Called old new G calls rest s m → BegunSteps old new (calls_of G calls) s
begun_calls old new G calls rest s m at = record {
  events = at.events;
  told = at.told;
  steps = at.steps;
  run_is = λ more. (run_calls G (at.steps + more) rest m.state, at.leads more);
}
