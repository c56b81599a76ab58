-- The whole run of a test, from its parts.
use Rattle.std.proofs.Common.{◌≡◌, ℕ, ◌+◌, List, [], ◌++◌, Option, Some, None, refl, sym, ap, ◌∙◌}
use Rattle.cc_meaning.specs.declared.event.Event.{Event}
use Rattle.cc_meaning.specs.declared.test.TestCall.{TestCall}
use Rattle.cc_acts.specs.declared.acts.Acts.{Acts}
use Rattle.cc_acts.specs.declared.state.State.{State}
use Rattle.cc_acts.specs.declared.stop.Stop.{Stop}
use Rattle.cc_acts.specs.Runs.{Goes, Stops, Part, go_on, ◌>>◌}
use Rattle.cc_interp.specs.Ran.{ended}
use Rattle.cc_interp.specs.Tested.{RanPart, BegunPart, RanSteps, BegunSteps, calls_of, run_with}
use Rattle.cc_interp.specs.Tests.{make_lasting, fill_lasting, run_calls, run}
use Rattle.cc_interp.proofs.Reach.{go_on_prepend, tells_on, tells_none}
use Rattle.cc_interp.proofs.Compose.{both_stop, then_told}

module _ (G : Acts) (calls : List TestCall) (s : State) where
  -- the run, once the objects are made
  abbrev rest_of : ℕ → Part (Unit {0})
  rest_of steps = fill_lasting G 0 G.lasting >> run_calls G steps calls

  made_then : (steps : ℕ) (s1 : State) → Goes tt s1 ≡ make_lasting G.lasting s → run G steps calls s ≡ rest_of steps s1
  made_then steps s1 h = ap (λ r. go_on r (λ _. rest_of steps)) (sym h)

  pub not_made : (stands : List Event → Type 0) (why : Stop) (s1 : State) → Stops why ≡ make_lasting G.lasting s → RanSteps stands stands (run_with G calls) s (Some why) s1
  not_made stands why s1 h = record {
    events = [];
    told = tells_none stands;
    steps = 0;
    run_is = λ more. ap (λ r. go_on r (λ _. rest_of (0 + more))) (sym h);
  }

  pub not_filled : (old new : List Event → Type 0) (why : Stop) (s1 s2 : State) → Goes tt s1 ≡ make_lasting G.lasting s → RanPart old new (fill_lasting G 0 G.lasting) s1 (Some why) s2 → RanSteps old new (run_with G calls) s (Some why) s2
  not_filled old new why s1 s2 h f = record {
    events = f.events;
    told = f.told;
    steps = 0;
    run_is = λ more. made_then (0 + more) s1 h ∙ both_stop (fill_lasting G 0 G.lasting) (run_calls G (0 + more) calls) s1 f.events why f.run_is;
  }

  pub all_ran : (old mid new : List Event → Type 0) (stop : Option Stop) (s1 s2 s3 : State) → Goes tt s1 ≡ make_lasting G.lasting s → RanPart old mid (fill_lasting G 0 G.lasting) s1 None s2 → RanSteps mid new (calls_of G calls) s2 stop s3 → RanSteps old new (run_with G calls) s stop s3
  all_ran old mid new stop s1 s2 s3 h f r = record {
    events = f.events ++ r.events;
    told = tells_on old mid new f.events r.events f.told r.told;
    steps = r.steps;
    run_is = λ more. made_then (r.steps + more) s1 h ∙ then_told (fill_lasting G 0 G.lasting) (run_calls G (r.steps + more) calls) s1 s2 f.events r.events (ended stop s3) f.run_is (r.run_is more);
  }

  pub none_begun : (stands : List Event → Type 0) → BegunSteps stands stands (run_with G calls) s
  none_begun stands = record { events = []; told = tells_none stands; steps = 0; run_is = λ more. (run G (0 + more) calls s, refl) }

  pub fill_begun : (old new : List Event → Type 0) (s1 : State) → Goes tt s1 ≡ make_lasting G.lasting s → BegunPart old new (fill_lasting G 0 G.lasting) s1 → BegunSteps old new (run_with G calls) s
  fill_begun old new s1 h f = record {
    events = f.events;
    told = f.told;
    steps = 0;
    run_is = λ more. (
      go_on f.others (λ _. run_calls G (0 + more) calls),
      made_then (0 + more) s1 h
          ∙ ap (λ q. go_on q (λ _. run_calls G (0 + more) calls)) f.run_is
          ∙ go_on_prepend f.events f.others (λ _. run_calls G (0 + more) calls),
    );
  }

  pub calls_begun : (old mid new : List Event → Type 0) (s1 s2 : State) → Goes tt s1 ≡ make_lasting G.lasting s → RanPart old mid (fill_lasting G 0 G.lasting) s1 None s2 → BegunSteps mid new (calls_of G calls) s2 → BegunSteps old new (run_with G calls) s
  calls_begun old mid new s1 s2 h f r = record {
    events = f.events ++ r.events;
    told = tells_on old mid new f.events r.events f.told r.told;
    steps = r.steps;
    run_is = λ more. (
      (r.run_is more).0,
      made_then (r.steps + more) s1 h ∙ then_told (fill_lasting G 0 G.lasting) (run_calls G (r.steps + more) calls) s1 s2 f.events r.events (r.run_is more).0 f.run_is (r.run_is more).1,
    );
  }
