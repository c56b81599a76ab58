-- Which couplings a list of events exercises: conditions on positions.
use Rattle.std.specs.Prelude.{◌≡◌, ◌≢◌, ℕ, ◌<◌, List, Option, Some, None, true, slice_get}
use Rattle.cc_meaning.specs.declared.event.Event.{Event}
use Rattle.cc_meaning.specs.declared.event.Event.TheVariants.{Enter, Pass, Def, Use, Leave}
use Rattle.cc_meaning.specs.declared.event.Cell.{Cell}
use Rattle.cc_meaning.specs.declared.coupling.Coupling.{Coupling}
use Rattle.cc_meaning.specs.declared.coupling.Coupling.TheVariants.{Call, Shared, Parameter, Return}
use Rattle.cc_program.specs.declared.function.FuncId.{FuncId}
use Rattle.cc_record_laws.specs.Roles.{Roles}
use Rattle.cc_record_laws.specs.Past.{IsLast, writes, blocks, touches, enters, reads, written}

-- The activation is the one entered last before h and not left before it.
pub record IsCaller (E : List Event) (h act : ℕ) : Type 0 where
  pub i : ℕ
  pub site : Option ℕ
  pub callee : FuncId
  pub before : i < h
  pub enter : slice_get E i ≡ Some (Enter site callee act)
  pub stays : (n : ℕ) (r : Option ℕ) → i < n → n < h → slice_get E n ≡ Some (Leave r act) → ⊥
  pub others : (n : ℕ) (s : Option ℕ) (g : FuncId) (a : ℕ) → i < n → n < h → slice_get E n ≡ Some (Enter s g a) → (l : ℕ) × (r : Option ℕ) × (n < l) × (l < h) × (slice_get E l ≡ Some (Leave r a))

-- The last `Use` before h by the occurrence in the activation reads what d wrote last.
pub record HasRead (R : Roles) (E : List Event) (h act u d : ℕ) : Type 0 where
  pub m : ℕ
  pub cell : Cell
  pub i : ℕ
  pub event : Event
  pub «use» : IsLast E (reads u act) h m (Use u cell act)
  pub last : IsLast E (writes cell) m i event
  pub def : written R event ≡ Some d

-- the definition of an argument or return: what its name read last, or itself
abbrev pub Defines : Roles → List Event → ℕ → ℕ → ℕ → ℕ → Option ℕ → Type 0
Defines R E h act arg d None = d ≡ arg
Defines R E h act arg d (Some u) = HasRead R E h act u d

pub record IsShared (R : Roles) (E : List Event) (d u x : ℕ) : Type 0 where
  pub i : ℕ
  pub j : ℕ
  pub cell : Cell
  pub act : ℕ
  pub act' : ℕ
  pub object : cell.object ≡ x
  pub «use» : slice_get E j ≡ Some (Use u cell act')
  pub last : IsLast E (blocks R cell (R.component u)) j i (Def d cell act)
  pub apart : R.component d ≢ R.component u

-- the definition of an argument, read by the caller before the call
abbrev pub DefinesPass : Roles → List Event → ℕ → ℕ → ℕ → Option ℕ → Type 0
DefinesPass R E h arg d None = d ≡ arg
DefinesPass R E h arg d (Some u) = (act : ℕ) × IsCaller E h act × HasRead R E h act u d

abbrev pub DefinesArgument : Roles → List Event → ℕ → ℕ → Option ℕ → Type 0
DefinesArgument R E h d None = ⊥
DefinesArgument R E h d (Some arg) = DefinesPass R E h arg d (R.named arg)

pub record IsParameter (R : Roles) (E : List Event) (d s k : ℕ) (g : FuncId) (u : ℕ) : Type 0 where
  pub i : ℕ
  pub j : ℕ
  pub h : ℕ
  pub cell : Cell
  pub act : ℕ
  pub act' : ℕ
  pub «use» : slice_get E j ≡ Some (Use u cell act')
  pub last : IsLast E (touches cell) j i (Pass s k cell act)
  pub enter : IsLast E (enters act) i h (Enter (Some s) g act)
  pub apart : R.component s ≢ R.home g
  pub defines : DefinesArgument R E h d (R.argument s k)

pub record IsReturn (R : Roles) (E : List Event) (d s : ℕ) (g : FuncId) : Type 0 where
  pub j : ℕ
  pub h : ℕ
  pub act : ℕ
  pub ret : ℕ
  pub leave : slice_get E j ≡ Some (Leave (Some ret) act)
  pub enter : IsLast E (enters act) j h (Enter (Some s) g act)
  pub apart : R.component s ≢ R.home g
  pub is_used : R.is_used s ≡ true
  pub defines : Defines R E j act ret d (R.returned ret)

abbrev pub Exercised : Roles → List Event → Coupling → Type 0
Exercised R E (Call s g) = (i act : ℕ) × (slice_get E i ≡ Some (Enter (Some s) g act)) × (R.component s ≢ R.home g)
Exercised R E (Shared d u x) = IsShared R E d u x
Exercised R E (Parameter d s k g u) = IsParameter R E d s k g u
Exercised R E (Return d s g) = IsReturn R E d s g
