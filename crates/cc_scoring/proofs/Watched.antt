-- What a recorder of one program stands for.
use Rattle.std.proofs.Common.{List, [], ◌∷◌, ◌++◌, Option, IfOk, Result, Ok, Err}
use Rattle.std.specs.Prelude.{OnOk}
use Rattle.cc_program.specs.declared.program.Program.{Program}
use Rattle.cc_meaning.specs.declared.event.Event.{Event}
use Rattle.cc_meaning.specs.declared.test.Test.{Test}
use Rattle.cc_acts.specs.declared.acts.Acts.{Acts}
use Rattle.cc_acts.specs.declared.stop.Stop.{Stop}
use Rattle.cc_interp.specs.Tested.{RanTest}
use Rattle.cc_record.specs.Recording.{Stands}
use Rattle.cc_record.specs.declared.recorder.Recorder.{Recorder}
use Rattle.cc_orderly_laws.specs.Runs.{IsRun, most_cells}
use Rattle.cc_scoring.specs.Watching.{IsReady, StandsFor}

module _ (named : Program → Type 0) where
  -- one event more
  pub event_more : {A B : Type 0} (old new : Recorder) (event : Event) (r : Result A B)
      → OnOk r ((p : Program) (told : List Event) → Stands p old told → Stands p new (told ++ event ∷ []))
      → OnOk r ((told : List Event) → StandsFor named old told → StandsFor named new (told ++ event ∷ []))
  event_more old new event (Ok x) h = λ told stands p is. h p told (stands p is)
  event_more old new event (Err x) h = tt

  -- a recorder that forgets all stands for no event
  pub forgets : (old new : Recorder) → IsReady named old → ((p : Program) (told : List Event) → Stands p old told → Stands p new []) → StandsFor named new []
  forgets old new ready h = λ p is. h p ready.0 (ready.1 p is)

  -- the events of a test's run
  pub run_watched : {B : Type 0} (G : Acts) (test : Test) (old new : Recorder) (r : Result (Option Stop) B) → StandsFor named old []
      → IfOk r (λ stop. RanTest (StandsFor named old) (StandsFor named new) G test most_cells stop)
      → IfOk r (λ stop. (events : List Event) × IsRun G test events stop × StandsFor named new events)
  run_watched G test old new (Ok stop) start h =
      let ran = h.1 in
      (ran.events, record { last = h.0; steps = ran.steps; run_is = ran.run_is }, ran.told [] start)
  run_watched G test old new (Err x) start h = tt
