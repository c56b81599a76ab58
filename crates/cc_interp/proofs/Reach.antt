-- From step to step, and to the end.
use Rattle.std.proofs.Common.{◌≡◌, ℕ, suc, ◌+◌, List, [], ◌∷◌, ◌++◌, Some, None, refl, sym, ap, ◌∙◌, subst, arith, append_assoc, append-nil, reverse}
use Rattle.std.specs.Prelude.{slice_get}
use Rattle.std.proofs.lemmas.List.{reverse-append}
use Rattle.cc_meaning.specs.declared.event.Event.{Event}
use Rattle.cc_acts.specs.declared.acts.Acts.{Acts}
use Rattle.cc_acts.specs.declared.stop.Stop.{Stop}
use Rattle.cc_acts.specs.Runs.{Run, Then, Part, go_on}
use Rattle.cc_acts.specs.Steps.{Config, drive, step_by}
use Rattle.cc_interp_step.specs.declared.machine.Machine.{Machine}
use Rattle.cc_interp_step.specs.declared.machine.Outcome.{Outcome}
use Rattle.cc_interp_step.specs.declared.machine.Outcome.TheVariants.{Next, Back, Stopped}
use Rattle.cc_interp_step.specs.Progress.{behind, left, told, outcome, config_of}
use Rattle.cc_interp.specs.Ran.{Tells, TellsSome, prepend, Ran, Begun, Reached}

pub go_on_prepend : {A B : Type 0} (es : List Event) (r : Run A) (f : A → Part B) → go_on (prepend es r) f ≡ prepend es (go_on r f)
go_on_prepend [] r f = refl
go_on_prepend (e ∷ es) r f = ap (Then e) (go_on_prepend es r f)

pub prepend_on : {A : Type 0} (es fs : List Event) (r : Run A) → prepend es (prepend fs r) ≡ prepend (es ++ fs) r
prepend_on [] fs r = refl
prepend_on (e ∷ es) fs r = ap (Then e) (prepend_on es fs r)

-- what is behind the outbox is behind its events in the order of telling
pub behind_is : {A : Type 0} (es : List Event) (r : Run A) → behind es r ≡ prepend (reverse es) r
behind_is [] r = refl
behind_is (e ∷ es) r =
    behind_is es (Then e r)
    ∙ prepend_on (reverse es) (e ∷ []) r
    ∙ ap (λ fs. prepend fs r) (sym (reverse-append (e ∷ []) es))

pub tells_on : (old mid new : List Event → Type 0) (es fs : List Event) → Tells old mid es → Tells mid new fs → Tells old new (es ++ fs)
tells_on old mid new es fs f g told h = subst new (append_assoc told es fs) (g (told ++ es) (f told h))

pub tells_none : (stands : List Event → Type 0) → Tells stands stands []
tells_none stands told h = subst stands (sym (append-nil told)) h

-- at the beginning
pub begins : (stands : List Event → Type 0) (G : Acts) (m : Machine) → m.outbox ≡ [] → Reached stands stands G m Next m
begins stands G m e = record { events = []; told = tells_none stands; steps = 0; leads = λ k. ap (λ j. drive G j (config_of m) m.state) (let same : 0 + k ≡ k = omega arith in same); empty = e }

-- what is done at the machine's point
abbrev pub does : Acts → Machine → Run Config
does G m = step_by G (slice_get G.nodes m.point) m.frame m.operands m.callers m.state

-- the step's run, in the order of telling
step_is : (G : Acts) (r : Outcome) (m m' : Machine) → m.outbox ≡ [] → left r m' ≡ told m (does G m) → does G m ≡ prepend (reverse m'.outbox) (outcome r m')
step_is G r m m' e h = sym (h ∙ ap (λ es. behind es (does G m)) e) ∙ behind_is m'.outbox (outcome r m')

-- one step more
leads_on : (G : Acts) (r : Outcome) (m0 m m' : Machine) (es : List Event) (n : ℕ) → m.outbox ≡ [] → ((k : ℕ) → drive G (n + k) (config_of m0) m0.state ≡ prepend es (go_on (outcome Next m) (drive G k))) → left r m' ≡ told m (does G m) → (k : ℕ) → drive G (suc n + k) (config_of m0) m0.state ≡ prepend (es ++ reverse m'.outbox) (go_on (outcome r m') (drive G k))
leads_on G r m0 m m' es n e leads h k =
    ap (λ j. drive G j (config_of m0) m0.state) (let same : suc n + k ≡ n + suc k = omega arith in same)
    ∙ leads (suc k)
    ∙ ap (λ run. prepend es (go_on run (drive G k))) (step_is G r m m' e h)
    ∙ ap (prepend es) (go_on_prepend (reverse m'.outbox) (outcome r m') (drive G k))
    ∙ prepend_on es (reverse m'.outbox) (go_on (outcome r m') (drive G k))

-- after a step that was told
pub goes_on : (old mid new : List Event → Type 0) (G : Acts) (r : Outcome) (m0 m m' : Machine) (outbox : List Event) → Reached old mid G m0 Next m → left r m' ≡ told m (does G m) → Tells mid new (reverse m'.outbox) → outbox ≡ [] → Reached old new G m0 r (record m' { outbox = outbox })
goes_on old mid new G r m0 m m' outbox at h t e = record {
  events = at.events ++ reverse m'.outbox;
  told = tells_on old mid new at.events (reverse m'.outbox) at.told t;
  steps = suc at.steps;
  leads = leads_on G r m0 m m' at.events at.steps at.empty at.leads h;
  empty = e;
}

-- where the test's call has returned
pub returned : (old new : List Event → Type 0) (G : Acts) (m0 m : Machine) → Reached old new G m0 Back m → Ran old new G m0 None m
returned old new G m0 m at = record {
  events = at.events;
  told = at.told;
  steps = suc at.steps;
  run_is = λ k. ap (λ j. drive G j (config_of m0) m0.state) (let same : suc at.steps + k ≡ at.steps + suc k = omega arith in same) ∙ at.leads (suc k);
  empty = at.empty;
}

-- where the run stops
pub stopped : (old new : List Event → Type 0) (G : Acts) (m0 : Machine) (why : Stop) (m : Machine) → Reached old new G m0 (Stopped why) m → Ran old new G m0 (Some why) m
stopped old new G m0 why m at = record { events = at.events; told = at.told; steps = at.steps; run_is = at.leads; empty = at.empty }

-- where memory was wanting before a step
pub begun : (old new : List Event → Type 0) (G : Acts) (m0 m : Machine) (r : Outcome) → Reached old new G m0 r m → Begun old new G m0
begun old new G m0 m r at = record {
  events = at.events;
  told = at.told;
  steps = at.steps;
  run_is = λ k. (go_on (outcome r m) (drive G k), at.leads k);
}

-- where memory was wanting while a step was told
pub begun_at : (old mid new : List Event → Type 0) (G : Acts) (r : Outcome) (m0 m m' : Machine) → Reached old mid G m0 Next m → left r m' ≡ told m (does G m) → TellsSome mid new (reverse m'.outbox) → Begun old new G m0
begun_at old mid new G r m0 m m' at h t = record {
  events = at.events ++ t.some;
  told = tells_on old mid new at.events t.some at.told t.told;
  steps = suc at.steps;
  run_is = λ k. (
    prepend t.others (go_on (outcome r m') (drive G k)),
    leads_on G r m0 m m' at.events at.steps at.empty at.leads h k
        ∙ ap (λ es. prepend (at.events ++ es) (go_on (outcome r m') (drive G k))) t.begins
        ∙ ap (λ es. prepend es (go_on (outcome r m') (drive G k))) (sym (append_assoc at.events t.some t.others))
        ∙ sym (prepend_on (at.events ++ t.some) t.others (go_on (outcome r m') (drive G k))),
  );
}
