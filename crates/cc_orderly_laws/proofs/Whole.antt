-- The run of a test keeps the order.
use Rattle.std.proofs.Common.{◌≡◌, ℕ, ◌+◌, List, [], ◌∷◌, inr, Option, Some, None, Bool, true, false, refl, ap, ◌∙◌, subst}
use Rattle.std.specs.Prelude.{ℤ, slice_get, take, drop}
use Rattle.cc_meaning.specs.declared.event.Event.{Event}
use Rattle.cc_meaning.specs.declared.test.TestCall.{TestCall}
use Rattle.cc_store.specs.declared.value.Value.TheVariants.{Function}
use Rattle.cc_acts.specs.declared.acts.Acts.{Acts}
use Rattle.cc_acts.specs.declared.acts.Lasting.{Lasting}
use Rattle.cc_acts.specs.declared.state.State.{State}
use Rattle.cc_acts.specs.declared.stop.Stop.{Stop}
use Rattle.cc_acts.specs.Runs.{events_of, ◌>>◌}
use Rattle.cc_acts.specs.Parts.{has_room, with}
use Rattle.cc_acts.specs.Steps.{At}
use Rattle.cc_interp.specs.Ran.{prepend, ended}
use Rattle.cc_interp.specs.Tests.{fresh, make_one_if, make_one, make_lasting, lasting_at, fill_one, fill_lasting, idle, pushed, entry_config, begin, drive_from, run_calls, run}
use Rattle.cc_record_laws.specs.Orderly.{IsOrderly}
use Rattle.cc_orderly_laws.specs.Entered.{AreEntered}
use Rattle.cc_orderly_laws.specs.Runs.{most_cells}
use Rattle.cc_orderly_laws.specs.Laws.{RunsAreOrderly}
use Rattle.cc_orderly_laws.proofs.Order.{InOrder, nothing_yet, forgotten, made_in, Keeps, keeps_on, orderly_after}
use Rattle.cc_orderly_laws.proofs.Parts.{Calm, calm_both, calm_fill_all}
use Rattle.cc_orderly_laws.proofs.Steps.{enters_there, driven}

-- no activation is running
abbrev Idle : List Event → Unit {0} → State → Type 0
Idle past x s = InOrder past [] s

-- Before the first call, activation 0 stands for the initialisation of static objects.

calm_one_if : (b : Bool) (o : Lasting) → Calm 0 [] (make_one_if b o)
calm_one_if true o past s h = made_in past (0 ∷ []) s.next_act s.store o.declarator o.cells o.is_fixed h
calm_one_if false o past s h = tt

calm_one : (o : Lasting) → Calm 0 [] (make_one o)
calm_one o past s h = calm_one_if (has_room o.cells s) o past s h

calm_lasting : (os : List Lasting) → Calm 0 [] (make_lasting os)
calm_lasting [] past s h = h
calm_lasting (o ∷ os) past s h = calm_both 0 [] (make_one o) (make_lasting os) (calm_one o) (calm_lasting os) past s h

module _ (G : Acts) where
  calm_filled : (k : ℕ) (os : List Lasting) → Calm 0 [] (fill_lasting G k os)
  calm_filled k [] past s h = h
  calm_filled k (o ∷ os) past s h =
      calm_both 0 [] (fill_one G k o) (fill_lasting G (k + 1) os) (calm_fill_all 0 [] o.declarator (lasting_at o k) [] 0 0 (take o.fillers (drop o.from G.fillers))) (calm_filled (k + 1) os) past s h

  module _ (all : AreEntered G) where
    call_from : (steps : ℕ) (c : TestCall) (entry : Option (Option ℕ)) → slice_get G.entries c.entry.0 ≡ entry → (past : List Event) (s : State) → InOrder past [] s → Keeps Idle past (drive_from G steps (entry_config c entry) s)
    call_from steps c (Some (Some point)) e past s h = driven G all steps (At point idle (pushed c.args (with 0 (Function c.entry) [])) []) past s (inr (enters_there G.nodes G.entries c.entry.0 point all e, h))
    call_from steps c (Some None) e past s h = tt
    call_from steps c None e past s h = tt

    calls : (steps : ℕ) (cs : List TestCall) (past : List Event) (s : State) → InOrder past [] s → Keeps Idle past (run_calls G steps cs s)
    calls steps [] past s h = h
    calls steps (c ∷ cs) past s h =
        keeps_on Idle Idle (λ _. run_calls G steps cs) (λ later x t q. calls steps cs later t q) past (drive_from G steps (begin G c) s) (call_from steps c (slice_get G.entries c.entry.0) refl past s h)

    whole : (steps : ℕ) (cs : List TestCall) (turns cells : ℕ) (answers : List ℤ) → Keeps Idle [] (run G steps cs (fresh turns cells answers))
    whole steps cs turns cells answers =
        let Static : List Event → Unit {0} → State → Type 0 = λ later x t. InOrder later (0 ∷ []) t in
        let s = fresh turns cells answers in
        keeps_on Static Idle (λ _. fill_lasting G 0 G.lasting >> run_calls G steps cs)
        (λ later x t q. keeps_on Static Idle (λ _. run_calls G steps cs) (λ last y u p. calls steps cs last u (forgotten last 0 [] u.next_act u.store p)) later (fill_lasting G 0 G.lasting t) (calm_filled 0 G.lasting later t q))
        [] (make_lasting G.lasting s) (calm_lasting G.lasting [] s nothing_yet)

events_prepended : (es : List Event) (stop : Option Stop) (s : State) → events_of (prepend es (ended stop s)) ≡ es
events_prepended [] None s = refl
events_prepended [] (Some why) s = refl
events_prepended (e ∷ es) stop s = ap (λ xs. e ∷ xs) (events_prepended es stop s)

pub runs_orderly : RunsAreOrderly
runs_orderly G test events stop all r =
    let told : events_of (run G (r.steps + 0) test.calls (fresh test.turns most_cells test.answers)) ≡ events = ap events_of (r.run_is 0) ∙ events_prepended events stop r.last in
    subst IsOrderly told (orderly_after Idle [] (run G (r.steps + 0) test.calls (fresh test.turns most_cells test.answers)) (whole G all (r.steps + 0) test.calls test.turns most_cells test.answers))
