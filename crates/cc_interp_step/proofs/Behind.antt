-- A part's run behind what was told, and what follows it.
use Rattle.std.proofs.Common.{◌≡◌, List, [], ◌∷◌, refl, sym, ap, ◌∙◌}
use Rattle.cc_meaning.specs.declared.event.Event.{Event}
use Rattle.cc_acts.specs.declared.state.State.{State}
use Rattle.cc_acts.specs.declared.stop.Stop.{Stop}
use Rattle.cc_acts.specs.Runs.{Run, Then, Goes, Stops, Part, go_on}
use Rattle.cc_interp_step.specs.Progress.{behind}

pub behind_on : {A B : Type 0} (es : List Event) (r : Run A) (f : A → Part B) → go_on (behind es r) f ≡ behind es (go_on r f)
behind_on [] r f = refl
behind_on (e ∷ es) r f = behind_on es (Then e r) f

-- where the part's run goes on, what follows goes on from there
pub goes_with : {A B : Type 0} (before after : List Event) (r : Run A) (x : A) (s : State) (f : A → Part B) → behind after (Goes x s) ≡ behind before r → behind after (f x s) ≡ behind before (go_on r f)
goes_with before after r x s f h = sym (behind_on after (Goes x s) f) ∙ ap (λ q. go_on q f) h ∙ behind_on before r f

-- where it stops, all stops
pub stops_with : {A B : Type 0} (before after : List Event) (r : Run A) (why : Stop) (f : A → Part B) → behind after (let q : Run A = Stops why in q) ≡ behind before r → behind after (Stops why) ≡ behind before (go_on r f)
stops_with before after r why f h = sym (behind_on after (Stops why) f) ∙ ap (λ q. go_on q f) h ∙ behind_on before r f
