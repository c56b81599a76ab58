-- The run of a test ends.
use Rattle.std.proofs.Common.{◌≡◌, ℕ, ◌+◌, ◌*◌, ◌<◌, ◌≤◌, List, [], ◌∷◌, Option, Some, None, Bool, true, false, refl, ap, ◌∙◌, arith}
use Rattle.std.specs.Prelude.{slice_get, take, drop}
use Rattle.std.proofs.Math.Nat.{mul-le-mul_left}
use Rattle.cc_meaning.specs.declared.test.TestCall.{TestCall}
use Rattle.cc_store.specs.declared.value.Value.TheVariants.{Function}
use Rattle.cc_acts.specs.declared.acts.Acts.{Acts}
use Rattle.cc_acts.specs.declared.acts.Lasting.{Lasting}
use Rattle.cc_acts.specs.declared.state.State.{State}
use Rattle.cc_acts.specs.Runs.{go_on, ◌>>◌}
use Rattle.cc_acts.specs.Parts.{has_room, with}
use Rattle.cc_acts.specs.Steps.{Config, At}
use Rattle.cc_interp.specs.Tests.{fresh, make_one_if, make_one, make_lasting, lasting_at, fill_one, fill_lasting, idle, pushed, entry_config, begin, drive_from, run_calls, run}
use Rattle.cc_ends_laws.specs.Laws.{RunsEnd}
use Rattle.cc_ends_laws.specs.Ranks.{rank, AreRanked}
use Rattle.cc_ends_laws.proofs.Holding.{Holds, holds_on, same_on, Told, told}
use Rattle.cc_ends_laws.proofs.Parts.{Still, still_both, still_fill_all}
use Rattle.cc_ends_laws.proofs.Steps.{driven, driven_same}

-- Before the first call no turn is taken.

still_one_if : (b : Bool) (o : Lasting) → Still 0 (make_one_if b o)
still_one_if true o most s h = h
still_one_if false o most s h = tt

still_one : (o : Lasting) → Still 0 (make_one o)
still_one o most s h = still_one_if (has_room o.cells s) o most s h

still_lasting : (os : List Lasting) → Still 0 (make_lasting os)
still_lasting [] most s h = h
still_lasting (o ∷ os) most s h = still_both 0 (make_one o) (make_lasting os) (still_one o) (still_lasting os) most s h

module _ (G : Acts) where
  still_filled : (k : ℕ) (os : List Lasting) → Still 0 (fill_lasting G k os)
  still_filled k [] most s h = h
  still_filled k (o ∷ os) most s h =
      still_both 0 (fill_one G k o) (fill_lasting G (k + 1) os) (still_fill_all 0 o.declarator (lasting_at o k) [] 0 0 (take o.fillers (drop o.from G.fillers))) (still_filled (k + 1) os) most s h

  -- with no fewer steps, of which there are enough, each call has the same run
  module _ (steps : ℕ) (ranks : List ℕ) (a : AreRanked G steps ranks) (turns k : ℕ) (enough : steps * turns < k) where
    abbrev Calm : Unit {0} → State → Type 0
    Calm x s = s.turns ≤ turns

    entered : (c : TestCall) (entry : Option (Option ℕ)) → slice_get G.entries c.entry.0 ≡ entry → (s : State) → s.turns ≤ turns → Holds Calm (drive_from G k (entry_config c entry) s)
    entered c (Some (Some point)) e s o =
        let none : rank ranks point ≡ 0 = a.entries c.entry.0 point e in
        let some : 0 < steps = a.some in
        let times : steps * s.turns ≤ steps * turns = mul-le-mul_left steps o in
        driven G steps ranks a turns k (At point idle (pushed c.args (with 0 (Function c.entry) [])) []) s (omega (arith, none, some), tt) (omega (arith, none, times, enough)) o
    entered c (Some None) e s o = tt
    entered c None e s o = tt

    calls : (cs : List TestCall) (s : State) → s.turns ≤ turns → Holds Calm (run_calls G k cs s)
    calls [] s o = o
    calls (c ∷ cs) s o = holds_on Calm Calm (λ _. run_calls G k cs) (λ x t q. calls cs t q) (drive_from G k (begin G c) s) (entered c (slice_get G.entries c.entry.0) refl s o)

    whole : (cs : List TestCall) (s : State) → s.turns ≤ turns → Holds Calm (run G k cs s)
    whole cs s o =
        holds_on Calm Calm (λ _. fill_lasting G 0 G.lasting >> run_calls G k cs)
        (λ x t q. holds_on Calm Calm (λ _. run_calls G k cs) (λ y u p. calls cs u p) (fill_lasting G 0 G.lasting t) (still_filled 0 G.lasting turns t q))
        (make_lasting G.lasting s) (still_lasting G.lasting turns s o)

    module _ (j : ℕ) (more : k ≤ j) where
      from_same : (c : Option Config) (s : State) → Holds Calm (drive_from G k c s) → drive_from G j c s ≡ drive_from G k c s
      from_same None s h = refl
      from_same (Some c) s h = driven_same G Calm k j more c s h

      calls_same : (cs : List TestCall) (s : State) → s.turns ≤ turns → run_calls G j cs s ≡ run_calls G k cs s
      calls_same [] s o = refl
      calls_same (c ∷ cs) s o =
          let h = entered c (slice_get G.entries c.entry.0) refl s o in
          ap (λ r. go_on r (λ _. run_calls G j cs)) (from_same (begin G c) s h)
          ∙ same_on Calm (λ _. run_calls G k cs) (λ _. run_calls G j cs) (λ x t q. calls_same cs t q) (drive_from G k (begin G c) s) h

      whole_same : (cs : List TestCall) (s : State) → s.turns ≤ turns → run G j cs s ≡ run G k cs s
      whole_same cs s o =
          same_on Calm (λ _. fill_lasting G 0 G.lasting >> run_calls G k cs) (λ _. fill_lasting G 0 G.lasting >> run_calls G j cs)
          (λ x t q. same_on Calm (λ _. run_calls G k cs) (λ _. run_calls G j cs) (λ y u p. calls_same cs u p) (fill_lasting G 0 G.lasting t) (still_filled 0 G.lasting turns t q))
          (make_lasting G.lasting s) (still_lasting G.lasting turns s o)

pub runs_end : RunsEnd
runs_end G steps r test cells =
    let k = test.turns * steps + 1 in
    let s = fresh test.turns cells test.answers in
    let enough : steps * test.turns < k = omega arith in
    let t : Told (run G k test.calls s) = told (λ x u. u.turns ≤ test.turns) s (run G k test.calls s) (whole G steps r.0 r.1 test.turns k enough test.calls s (omega arith)) in
    record {
      events = t.events;
      stop = t.stop;
      last = t.last;
      run_is = λ more. whole_same G steps r.0 r.1 test.turns k enough (k + more) (omega arith) test.calls s (omega arith) ∙ t.run_is;
    }
