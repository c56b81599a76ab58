-- From object to object that is made before the first call.
use Rattle.std.proofs.Common.{◌≡◌, ℕ, ◌+◌, List, [], ◌∷◌, ◌++◌, Option, Some, None, refl, sym, ap, ◌∙◌, reverse}
use Rattle.cc_meaning.specs.declared.event.Event.{Event}
use Rattle.cc_acts.specs.declared.acts.Acts.{Acts}
use Rattle.cc_acts.specs.declared.acts.Lasting.{Lasting}
use Rattle.cc_acts.specs.declared.state.State.{State}
use Rattle.cc_acts.specs.declared.stop.Stop.{Stop}
use Rattle.cc_acts.specs.Runs.{Run, Goes, Stops, Part, go_on}
use Rattle.cc_interp_step.specs.declared.machine.Machine.{Machine}
use Rattle.cc_interp_step.specs.Progress.{behind, done}
use Rattle.cc_interp.specs.Ran.{Tells, TellsSome, prepend}
use Rattle.cc_interp.specs.Tested.{RanPart, BegunPart, Filled}
use Rattle.cc_interp.specs.Tests.{fill_lasting, fill_one}
use Rattle.cc_interp.proofs.Reach.{go_on_prepend, prepend_on, tells_on, tells_none, behind_is}
use Rattle.cc_interp.proofs.Compose.{both_stop, then_second}

pub filled_none : (stands : List Event → Type 0) (G : Acts) (all : List Lasting) (m : Machine) → m.outbox ≡ [] → Filled stands stands G all 0 all m.state m
filled_none stands G all m e = record { events = []; told = tells_none stands; leads = refl; empty = e }

-- the object's run, in the order of telling
pub one_is : (G : Acts) (k : ℕ) (o : Lasting) (before after : List Event) (r : Option Stop) (s s' : State) → before ≡ [] → behind after (done r s') ≡ behind before (fill_one G k o s) → fill_one G k o s ≡ prepend (reverse after) (done r s')
one_is G k o before after r s s' e h = sym (h ∙ ap (λ es. behind es (fill_one G k o s)) e) ∙ behind_is after (done r s')

pub next_filled : (old mid new : List Event → Type 0) (G : Acts) (all : List Lasting) (k : ℕ) (o : Lasting) (os : List Lasting) (s : State) (m m' : Machine) (es : List Event) → Filled old mid G all k (o ∷ os) s m → fill_one G k o m.state ≡ prepend es (Goes tt m'.state) → Tells mid new es → m'.outbox ≡ [] → Filled old new G all (k + 1) os s m'
next_filled old mid new G all k o os s m m' es at h t e = record {
  events = at.events ++ es;
  told = tells_on old mid new at.events es at.told t;
  leads =
      at.leads
      ∙ ap (prepend at.events) (then_second (fill_one G k o) (fill_lasting G (k + 1) os) m.state m'.state es h)
      ∙ prepend_on at.events es (fill_lasting G (k + 1) os m'.state);
  empty = e;
}

pub stopped_filled : (old mid new : List Event → Type 0) (G : Acts) (all : List Lasting) (k : ℕ) (o : Lasting) (os : List Lasting) (s s' : State) (m : Machine) (es : List Event) (why : Stop) → Filled old mid G all k (o ∷ os) s m → fill_one G k o m.state ≡ prepend es (Stops why) → Tells mid new es → RanPart old new (fill_lasting G 0 all) s (Some why) s'
stopped_filled old mid new G all k o os s s' m es why at h t = record {
  events = at.events ++ es;
  told = tells_on old mid new at.events es at.told t;
  run_is =
      at.leads
      ∙ ap (prepend at.events) (both_stop (fill_one G k o) (fill_lasting G (k + 1) os) m.state es why h)
      ∙ prepend_on at.events es (Stops why);
}

pub filled_all : (old new : List Event → Type 0) (G : Acts) (all : List Lasting) (k : ℕ) (s : State) (m : Machine) → Filled old new G all k [] s m → RanPart old new (fill_lasting G 0 all) s None m.state
filled_all old new G all k s m at = record { events = at.events; told = at.told; run_is = at.leads }

pub begun_filled : (old new : List Event → Type 0) (G : Acts) (all : List Lasting) (k : ℕ) (os : List Lasting) (s : State) (m : Machine) → Filled old new G all k os s m → BegunPart old new (fill_lasting G 0 all) s
begun_filled old new G all k os s m at = record { events = at.events; told = at.told; others = fill_lasting G k os m.state; run_is = at.leads }

pub begun_filling : (old mid new : List Event → Type 0) (G : Acts) (all : List Lasting) (k : ℕ) (o : Lasting) (os : List Lasting) (s : State) (m : Machine) (es : List Event) (r : Run (Unit {0})) → Filled old mid G all k (o ∷ os) s m → fill_one G k o m.state ≡ prepend es r → TellsSome mid new es → BegunPart old new (fill_lasting G 0 all) s
begun_filling old mid new G all k o os s m es r at h t =
    let rest : (x : Unit {0}) → Part (Unit {0}) = λ _. fill_lasting G (k + 1) os in
    record {
      events = at.events ++ t.some;
      told = tells_on old mid new at.events t.some at.told t.told;
      others = prepend t.others (go_on r rest);
      run_is =
          at.leads
          ∙ ap (λ q. prepend at.events (go_on q rest)) h
          ∙ ap (prepend at.events) (go_on_prepend es r rest)
          ∙ ap (λ fs. prepend at.events (prepend fs (go_on r rest))) t.begins
          ∙ ap (prepend at.events) (sym (prepend_on t.some t.others (go_on r rest)))
          ∙ prepend_on at.events t.some (prepend t.others (go_on r rest));
    }
