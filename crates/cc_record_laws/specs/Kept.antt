-- What a recorder keeps: a state, what an event makes of it, and what an event gives by it.
use Rattle.std.specs.Prelude.{◌≡◌, ℕ, List, [], ◌∷◌, Option, Some, None, cond, nat_eq, ◌⊎◌, ◌↔◌}
use Rattle.cc_meaning.specs.declared.event.Event.{Event}
use Rattle.cc_meaning.specs.declared.event.Event.TheVariants.{Enter, Pass, Def, Use, Leave, Gone, Ask}
use Rattle.cc_meaning.specs.declared.event.Cell.{Cell}
use Rattle.cc_meaning.specs.declared.coupling.Coupling.{Coupling}
use Rattle.cc_meaning.specs.declared.coupling.Coupling.TheVariants.{Call, Shared, Parameter, Return}
use Rattle.cc_program.specs.declared.function.FuncId.{FuncId}
pub use Rattle.cc_record_laws.specs.declared.kept.Entry.{Entry}
pub use Rattle.cc_record_laws.specs.declared.kept.Passed.{Passed}
use Rattle.cc_record_laws.specs.Roles.{Roles}
use Rattle.cc_record_laws.specs.Past.{writes, blocks, touches, enters, reads, written}
use Rattle.cc_record_laws.specs.Gives.{of_enter, apart, returns, param}
use Rattle.cc_record_laws.specs.Exercised.{Exercised}

pub record Kept : Type 0 where
  -- the definition that a `Use` by the component would be the first to read
  pub due : Cell → ℕ → Option ℕ
  -- the last definition
  pub wrote : Cell → Option ℕ
  -- how the cell was passed, if nothing has touched it since
  pub fresh : Cell → Option Passed
  -- what the activation's last `Use` by the occurrence read
  pub read : ℕ → ℕ → Option ℕ
  -- how the activation was entered
  pub entry : ℕ → Option Entry
  -- the definitions of the arguments by number, at the entry of the activation
  pub passing : ℕ → ℕ → Option ℕ
  -- the activations entered and not left, the last one first
  pub stack : List ℕ

abbrev pub start : Kept
start = record {
  due = λ c n. None;
  wrote = λ c. None;
  fresh = λ c. None;
  read = λ a u. None;
  entry = λ a. None;
  passing = λ a n. None;
  stack = [];
}

abbrev pub defines : Event → Option ℕ
defines (Def o x a) = Some o
defines (Pass s k x a) = None
defines (Use o x a) = None
defines (Enter s g a) = None
defines (Leave r a) = None
defines (Gone n) = None
defines (Ask t' g' a') = None

abbrev pub entry_of : Event → Option Entry
entry_of (Enter (Some s) g a) = Some (record { site = s; callee = g })
entry_of (Enter None g a) = None
entry_of (Def o x a) = None
entry_of (Pass s k x a) = None
entry_of (Use o x a) = None
entry_of (Leave r a) = None
entry_of (Gone n) = None
entry_of (Ask t' g' a') = None

abbrev pub passed_of : Roles → Kept → Event → Option Passed
passed_of R k (Pass s n x a) = Some (record { site = s; k = n; entry = k.entry a; definition = k.passing a n })
passed_of R k (Enter s g a) = None
passed_of R k (Def o x a) = None
passed_of R k (Use o x a) = None
passed_of R k (Leave r a) = None
passed_of R k (Gone n) = None
passed_of R k (Ask t' g' a') = None

abbrev pub now_read : Kept → Event → Option ℕ
now_read k (Use o c a) = k.wrote c
now_read k (Enter s g a) = None
now_read k (Def o x a) = None
now_read k (Pass s n x a) = None
now_read k (Leave r a) = None
now_read k (Gone n) = None
now_read k (Ask t' g' a') = None

abbrev pub top : List ℕ → Option ℕ
top [] = None
top (a ∷ ids) = Some a

abbrev pub top_read : Kept → ℕ → Option ℕ → Option ℕ
top_read k u None = None
top_read k u (Some act) = k.read act u

-- the definition of an argument or return, which is itself where it's no name
abbrev pub named_by : ℕ → (ℕ → Option ℕ) → Option ℕ → Option ℕ
named_by arg r None = Some arg
named_by arg r (Some u) = r u

abbrev pub argument_now : Roles → Kept → Option ℕ → Option ℕ
argument_now R k None = None
argument_now R k (Some arg) = named_by arg (λ u. top_read k u (top k.stack)) (R.named arg)

-- the definition of the argument of this number, where the event enters by a site
abbrev pub passing_by : Roles → Kept → ℕ → Event → Option ℕ
passing_by R k n (Enter (Some s) g a) = argument_now R k (R.argument s n)
passing_by R k n (Enter None g a) = None
passing_by R k n (Def o x a) = None
passing_by R k n (Pass s i x a) = None
passing_by R k n (Use o x a) = None
passing_by R k n (Leave r a) = None
passing_by R k n (Gone i) = None
passing_by R k n (Ask t' g' a') = None

abbrev pub without : ℕ → List ℕ → List ℕ
without act [] = []
without act (a ∷ ids) = cond (nat_eq act a) (without act ids) (a ∷ without act ids)

abbrev pub stack_on : List ℕ → Event → List ℕ
stack_on ids (Enter s g a) = a ∷ ids
stack_on ids (Leave r a) = without a ids
stack_on ids (Def o x a) = ids
stack_on ids (Pass s n x a) = ids
stack_on ids (Use o x a) = ids
stack_on ids (Gone n) = ids
stack_on ids (Ask t' g' a') = ids

-- the state after one event more
abbrev pub after : Roles → Kept → Event → Kept
after R k e = record {
  due = λ c n. cond (blocks R c n e) (defines e) (k.due c n);
  wrote = λ c. cond (writes c e) (written R e) (k.wrote c);
  fresh = λ c. cond (touches c e) (passed_of R k e) (k.fresh c);
  read = λ a u. cond (reads u a e) (now_read k e) (k.read a u);
  entry = λ a. cond (enters a e) (entry_of e) (k.entry a);
  passing = λ a n. cond (enters a e) (passing_by R k n e) (k.passing a n);
  stack = stack_on k.stack e;
}

abbrev pub after_all : Roles → Kept → List Event → Kept
after_all R k [] = k
after_all R k (e ∷ es) = after_all R (after R k e) es

abbrev pub shared_now : Roles → ℕ → ℕ → Option ℕ → Option Coupling
shared_now R u x None = None
shared_now R u x (Some d) = apart R (R.component d) (R.component u) (Some (Shared d u x))

abbrev pub param_at : Roles → ℕ → Passed → Option Entry → Option Coupling
param_at R u p None = None
param_at R u p (Some e) = cond (nat_eq e.site p.site) (apart R (R.component p.site) (R.home e.callee) (param p.site p.k e.callee u p.definition)) None

abbrev pub param_now : Roles → ℕ → Option Passed → Option Coupling
param_now R u None = None
param_now R u (Some p) = param_at R u p p.entry

abbrev pub return_now : Roles → Option ℕ → Option Entry → Option Coupling
return_now R def None = None
return_now R def (Some e) = apart R (R.component e.site) (R.home e.callee) (cond (R.is_used e.site) (returns e.site e.callee def) None)

abbrev pub use_now : Roles → Kept → Event → Option Coupling
use_now R k (Use u c a) = shared_now R u c.object (k.due c (R.component u))
use_now R k (Enter s g a) = None
use_now R k (Pass s n c a) = None
use_now R k (Def o c a) = None
use_now R k (Leave r a) = None
use_now R k (Gone n) = None
use_now R k (Ask t' g' a') = None

abbrev pub formal_now : Roles → Kept → Event → Option Coupling
formal_now R k (Use u c a) = param_now R u (k.fresh c)
formal_now R k (Enter s g a) = None
formal_now R k (Pass s n c a) = None
formal_now R k (Def o c a) = None
formal_now R k (Leave r a) = None
formal_now R k (Gone n) = None
formal_now R k (Ask t' g' a') = None

abbrev pub leave_now : Roles → Kept → Event → Option Coupling
leave_now R k (Leave (Some ret) a) = return_now R (named_by ret (k.read a) (R.returned ret)) (k.entry a)
leave_now R k (Leave None a) = None
leave_now R k (Use u c a) = None
leave_now R k (Enter s g a) = None
leave_now R k (Pass s n c a) = None
leave_now R k (Def o c a) = None
leave_now R k (Gone n) = None
leave_now R k (Ask t' g' a') = None

-- the event gives the coupling, by what is kept
abbrev pub GivesNow : Roles → Kept → Event → Coupling → Type 0
GivesNow R k e (Call s g) = of_enter R e ≡ Some (Call s g)
GivesNow R k e (Shared d u x) = use_now R k e ≡ Some (Shared d u x)
GivesNow R k e (Parameter d s n g u) = formal_now R k e ≡ Some (Parameter d s n g u)
GivesNow R k e (Return d s g) = leave_now R k e ≡ Some (Return d s g)

-- a state's events give the coupling, one after another
abbrev pub GivenFrom : Roles → Kept → List Event → Coupling → Type 0
GivenFrom R k [] q = ⊥
GivenFrom R k (e ∷ es) q = GivesNow R k e q ⊎ GivenFrom R (after R k e) es q

-- What the states give along a list is exactly what the list exercises.
abbrev pub RecordsExactly : Type 0
RecordsExactly = (R : Roles) (E : List Event) (q : Coupling) → Exercised R E q ↔ GivenFrom R start E q
