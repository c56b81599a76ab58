-- One part after another.
use Rattle.std.proofs.Common.{◌≡◌, List, ◌++◌, ap, ◌∙◌}
use Rattle.cc_meaning.specs.declared.event.Event.{Event}
use Rattle.cc_acts.specs.declared.state.State.{State}
use Rattle.cc_acts.specs.declared.stop.Stop.{Stop}
use Rattle.cc_acts.specs.Runs.{Run, Goes, Stops, Part, go_on, ◌>>◌}
use Rattle.cc_interp.specs.Ran.{prepend}
use Rattle.cc_interp.proofs.Reach.{go_on_prepend, prepend_on}

-- where the first part stops, both do
pub both_stop : (p q : Part (Unit {0})) (s : State) (es : List Event) (why : Stop) → p s ≡ prepend es (Stops why) → (p >> q) s ≡ prepend es (Stops why)
both_stop p q s es why h = ap (λ r. go_on r (λ _. q)) h ∙ go_on_prepend es (Stops why) (λ _. q)

-- where it goes on, the second comes
pub then_second : (p q : Part (Unit {0})) (s s' : State) (es : List Event) → p s ≡ prepend es (Goes tt s') → (p >> q) s ≡ prepend es (q s')
then_second p q s s' es h = ap (λ r. go_on r (λ _. q)) h ∙ go_on_prepend es (Goes tt s') (λ _. q)

-- and the events of both are told
pub then_told : (p q : Part (Unit {0})) (s s' : State) (es fs : List Event) (r : Run (Unit {0})) → p s ≡ prepend es (Goes tt s') → q s' ≡ prepend fs r → (p >> q) s ≡ prepend (es ++ fs) r
then_told p q s s' es fs r h k = then_second p q s s' es h ∙ ap (prepend es) k ∙ prepend_on es fs r
