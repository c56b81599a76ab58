-- What an event gives, found from the last events before it.
use Rattle.std.specs.Prelude.{ℕ, List, Option, Some, None, cond, nat_eq, take}
use Rattle.cc_meaning.specs.declared.event.Event.{Event}
use Rattle.cc_meaning.specs.declared.event.Event.TheVariants.{Enter, Pass, Def, Use, Leave, Gone, Ask}
use Rattle.cc_meaning.specs.declared.coupling.Coupling.{Coupling}
use Rattle.cc_meaning.specs.declared.coupling.Coupling.TheVariants.{Call, Shared, Parameter, Return}
use Rattle.cc_program.specs.declared.function.FuncId.{FuncId}
use Rattle.cc_record_laws.specs.Roles.{Roles}
use Rattle.cc_record_laws.specs.Past.{last_of, writes, blocks, touches, enters, reads, written, caller}

abbrev pub apart : Roles → ℕ → ℕ → Option Coupling → Option Coupling
apart R k n q = cond (nat_eq k n) None q

abbrev pub of_enter : Roles → Event → Option Coupling
of_enter R (Enter (Some s) g a) = apart R (R.component s) (R.home g) (Some (Call s g))
of_enter R (Enter None g a) = None
of_enter R (Pass s k c a) = None
of_enter R (Def o c a) = None
of_enter R (Use o c a) = None
of_enter R (Leave r a) = None
of_enter R (Gone n) = None
of_enter R (Ask t' g' a') = None

abbrev pub shared_of : Roles → ℕ → ℕ → Event → Option Coupling
shared_of R u x (Def d c a) = apart R (R.component d) (R.component u) (Some (Shared d u x))
shared_of R u x (Enter s g a) = None
shared_of R u x (Pass s k c a) = None
shared_of R u x (Use o c a) = None
shared_of R u x (Leave r a) = None
shared_of R u x (Gone n) = None
shared_of R u x (Ask t' g' a') = None

abbrev pub shared_by : Roles → ℕ → ℕ → Option (ℕ × Event) → Option Coupling
shared_by R u x None = None
shared_by R u x (Some p) = shared_of R u x p.1

-- the shared coupling of the event at the list's end
abbrev pub of_use : Roles → List Event → Event → Option Coupling
of_use R past (Use u c a) = shared_by R u c.object (last_of (blocks R c (R.component u)) past)
of_use R past (Enter s g a) = None
of_use R past (Pass s k c a) = None
of_use R past (Def o c a) = None
of_use R past (Leave r a) = None
of_use R past (Gone n) = None
of_use R past (Ask t' g' a') = None

-- the definition that the last such event stands for
abbrev pub written_by : Roles → Option (ℕ × Event) → Option ℕ
written_by R None = None
written_by R (Some p) = written R p.1

abbrev pub read_at : Roles → List Event → Event → Option ℕ
read_at R past (Use o c a) = written_by R (last_of (writes c) past)
read_at R past (Enter s g a) = None
read_at R past (Pass s k c a) = None
read_at R past (Def o c a) = None
read_at R past (Leave r a) = None
read_at R past (Gone n) = None
read_at R past (Ask t' g' a') = None

abbrev pub read_by : Roles → List Event → Option (ℕ × Event) → Option ℕ
read_by R past None = None
read_by R past (Some p) = read_at R (take p.0 past) p.1

-- what the activation's last `Use` by the occurrence read
abbrev pub read_of : Roles → List Event → ℕ → ℕ → Option ℕ
read_of R past act u = read_by R past (last_of (reads u act) past)

abbrev pub caller_read : Roles → List Event → ℕ → Option ℕ → Option ℕ
caller_read R past u None = None
caller_read R past u (Some act) = read_of R past act u

-- the definition of an argument, before the call
abbrev pub passed_by : Roles → List Event → ℕ → Option ℕ → Option ℕ
passed_by R past arg None = Some arg
passed_by R past arg (Some u) = caller_read R past u (caller past)

abbrev pub argument_by : Roles → List Event → Option ℕ → Option ℕ
argument_by R past None = None
argument_by R past (Some arg) = passed_by R past arg (R.named arg)

-- the definition of a return
abbrev pub returned_by : Roles → List Event → ℕ → ℕ → Option ℕ → Option ℕ
returned_by R past act ret None = Some ret
returned_by R past act ret (Some u) = read_of R past act u

abbrev pub param : ℕ → ℕ → FuncId → ℕ → Option ℕ → Option Coupling
param s k g u None = None
param s k g u (Some d) = Some (Parameter d s k g u)

abbrev pub entered : Roles → List Event → ℕ → ℕ → ℕ → Event → Option Coupling
entered R past s k u (Enter (Some s') g a) = cond (nat_eq s' s) (apart R (R.component s) (R.home g) (param s k g u (argument_by R past (R.argument s k)))) None
entered R past s k u (Enter None g a) = None
entered R past s k u (Pass t n c a) = None
entered R past s k u (Def o c a) = None
entered R past s k u (Use o c a) = None
entered R past s k u (Leave r a) = None
entered R past s k u (Gone n) = None
entered R past s k u (Ask t' g' a') = None

abbrev pub entered_by : Roles → List Event → ℕ → ℕ → ℕ → Option (ℕ × Event) → Option Coupling
entered_by R past s k u None = None
entered_by R past s k u (Some p) = entered R (take p.0 past) s k u p.1

abbrev pub formal_of : Roles → List Event → ℕ → Event → Option Coupling
formal_of R past u (Pass s k c a) = entered_by R past s k u (last_of (enters a) past)
formal_of R past u (Enter s g a) = None
formal_of R past u (Def o c a) = None
formal_of R past u (Use o c a) = None
formal_of R past u (Leave r a) = None
formal_of R past u (Gone n) = None
formal_of R past u (Ask t' g' a') = None

abbrev pub formal_by : Roles → List Event → ℕ → Option (ℕ × Event) → Option Coupling
formal_by R past u None = None
formal_by R past u (Some p) = formal_of R (take p.0 past) u p.1

-- the parameter coupling of the event at the list's end
abbrev pub of_formal : Roles → List Event → Event → Option Coupling
of_formal R past (Use u c a) = formal_by R past u (last_of (touches c) past)
of_formal R past (Enter s g a) = None
of_formal R past (Pass s k c a) = None
of_formal R past (Def o c a) = None
of_formal R past (Leave r a) = None
of_formal R past (Gone n) = None
of_formal R past (Ask t' g' a') = None

abbrev pub returns : ℕ → FuncId → Option ℕ → Option Coupling
returns s g None = None
returns s g (Some d) = Some (Return d s g)

abbrev pub left_to : Roles → List Event → ℕ → ℕ → Event → Option Coupling
left_to R past act ret (Enter (Some s) g a) = apart R (R.component s) (R.home g) (cond (R.is_used s) (returns s g (returned_by R past act ret (R.returned ret))) None)
left_to R past act ret (Enter None g a) = None
left_to R past act ret (Pass s k c a) = None
left_to R past act ret (Def o c a) = None
left_to R past act ret (Use o c a) = None
left_to R past act ret (Leave r a) = None
left_to R past act ret (Gone n) = None
left_to R past act ret (Ask t' g' a') = None

abbrev pub left_by : Roles → List Event → ℕ → ℕ → Option (ℕ × Event) → Option Coupling
left_by R past act ret None = None
left_by R past act ret (Some p) = left_to R past act ret p.1

-- the return coupling of the event at the list's end
abbrev pub of_leave : Roles → List Event → Event → Option Coupling
of_leave R past (Leave (Some ret) act) = left_by R past act ret (last_of (enters act) past)
of_leave R past (Leave None act) = None
of_leave R past (Enter s g a) = None
of_leave R past (Pass s k c a) = None
of_leave R past (Def o c a) = None
of_leave R past (Use o c a) = None
of_leave R past (Gone n) = None
of_leave R past (Ask t' g' a') = None
