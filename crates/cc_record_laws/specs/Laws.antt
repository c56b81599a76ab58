-- What each event gives is what the list exercises.
use Rattle.std.specs.Prelude.{◌≡◌, ◌↔◌, ℕ, List, Some, slice_get, take}
use Rattle.cc_meaning.specs.declared.event.Event.{Event}
use Rattle.cc_meaning.specs.declared.coupling.Coupling.{Coupling}
use Rattle.cc_meaning.specs.declared.coupling.Coupling.TheVariants.{Call, Shared, Parameter, Return}
use Rattle.cc_record_laws.specs.Roles.{Roles}
use Rattle.cc_record_laws.specs.Exercised.{Exercised}
use Rattle.cc_record_laws.specs.Gives.{of_enter, of_use, of_formal, of_leave}

-- the event gives the coupling, after these
abbrev pub Gives : Roles → List Event → Event → Coupling → Type 0
Gives R past e (Call s g) = of_enter R e ≡ Some (Call s g)
Gives R past e (Shared d u x) = of_use R past e ≡ Some (Shared d u x)
Gives R past e (Parameter d s k g u) = of_formal R past e ≡ Some (Parameter d s k g u)
Gives R past e (Return d s g) = of_leave R past e ≡ Some (Return d s g)

-- an event of the list gives the coupling
abbrev pub IsGiven : Roles → List Event → Coupling → Type 0
IsGiven R E q = (j : ℕ) × (e : Event) × (slice_get E j ≡ Some e) × Gives R (take j E) e q

-- The couplings that events give are exactly those that the list exercises.
abbrev pub GivesExactly : Type 0
GivesExactly = (R : Roles) (E : List Event) (q : Coupling) → Exercised R E q ↔ IsGiven R E q
