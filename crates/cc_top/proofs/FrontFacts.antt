-- The refusals that faults of the front end are.
use Rattle.std.proofs.Common.{◌≢◌, ◌<◌, ℕ, List, Option, Some, None, IfSome, sym, subst, inl, inr, arith}
use Rattle.std.specs.Prelude.{Contains, slice_get}
use Rattle.cc_base.specs.declared.place.Spot.{Spot}
use Rattle.cc_front.specs.Faults.{IsCaused, IsOther, IsToldIn}
use Rattle.cc_front.specs.declared.fault.Fault.{Fault}
use Rattle.cc_front.specs.declared.fault.FrontFault.{FrontFault}
use Rattle.cc_front.specs.declared.fault.FrontFault.TheVariants as front
use Rattle.cc_io.specs.Shelf.{Files}
use Rattle.cc_prep.specs.Faults.{Counts, IsTold}
use Rattle.cc_prep.specs.Faults as expansion
use Rattle.cc_prep.specs.declared.fault.PrepFault.{PrepFault}
use Rattle.cc_prep.specs.declared.fault.PrepFault.TheVariants as prep
use Rattle.cc_link_rules.specs.declared.fault.Names.{Names}
use Rattle.cc_link_rules.specs.declared.fault.Names.TheVariants.{Entries, Environment}
use Rattle.cc_project.specs.Project.{Project}
use Rattle.cc_top.proofs.CheckFacts.{input_named, refuses}
use Rattle.cc_top.specs.Answer.{RefusesFiles, reply_of}
use Rattle.cc_top.specs.Counts.{Caused}
use Rattle.cc_top.specs.Reads.{IsIncludedIn}
use Rattle.cc_top.specs.Refusal.{FaultNames, IsOfInput, refusal_of, status_of}
use Rattle.cc_top.specs.Refused.{IsRefusal, file_name, in_file, names_in, of_call, of_front, of_function, test_name}
use Rattle.cc_top.specs.declared.refusal.Refusal.{Refusal}
use Rattle.cc_top.specs.declared.refusal.Refusal.TheVariants as why

pub input_kind : (r : Refusal) → IsOfInput r → status_of r ≢ 2
input_kind why.Usage h = absurd h
input_kind (why.ReadFault name) h = absurd h
input_kind (why.Missing name) h = absurd h
input_kind (why.TooLong name) h = absurd h
input_kind (why.TooManyPoints count) h = λ e. absurd (omega (arith, e))
input_kind why.TooManyFacts h = λ e. absurd (omega (arith, e))
input_kind why.TooManyRows h = λ e. absurd (omega (arith, e))
input_kind (why.NotToml name) h = λ e. absurd (omega (arith, e))
input_kind (why.Shape name key rule) h = λ e. absurd (omega (arith, e))
input_kind (why.DeviceShape name key rule) h = λ e. absurd (omega (arith, e))
input_kind (why.At at) h = λ e. absurd (omega (arith, e))
input_kind (why.Entry name rule) h = λ e. absurd (omega (arith, e))
input_kind (why.Environment name rule) h = λ e. absurd (omega (arith, e))
input_kind (why.Test test call rule) h = λ e. absurd (omega (arith, e))
input_kind why.TooManyNodes h = λ e. absurd (omega (arith, e))
input_kind (why.NoSuchRow told index) h = λ e. absurd (omega (arith, e))
input_kind (why.Covered told index row test) h = λ e. absurd (omega (arith, e))
input_kind (why.Internal what) h = λ e. absurd (omega (arith, e))
input_kind why.Memory h = λ e. absurd (omega (arith, e))

pub input_caused : (old new : Counts) (r : Refusal) → IsOfInput r → Caused old new r
input_caused old new why.Usage h = absurd h
input_caused old new (why.ReadFault name) h = absurd h
input_caused old new (why.Missing name) h = absurd h
input_caused old new (why.TooLong name) h = absurd h
input_caused old new (why.TooManyPoints count) h = (λ x. absurd x, λ x. absurd x, λ x. absurd x)
input_caused old new why.TooManyFacts h = (λ x. absurd x, λ x. absurd x, λ x. absurd x)
input_caused old new why.TooManyRows h = (λ x. absurd x, λ x. absurd x, λ x. absurd x)
input_caused old new (why.NotToml name) h = (λ x. absurd x, λ x. absurd x, λ x. absurd x)
input_caused old new (why.Shape name key rule) h = (λ x. absurd x, λ x. absurd x, λ x. absurd x)
input_caused old new (why.DeviceShape name key rule) h = (λ x. absurd x, λ x. absurd x, λ x. absurd x)
input_caused old new (why.At at) h = (λ x. absurd x, λ x. absurd x, λ x. absurd x)
input_caused old new (why.Entry name rule) h = (λ x. absurd x, λ x. absurd x, λ x. absurd x)
input_caused old new (why.Environment name rule) h = (λ x. absurd x, λ x. absurd x, λ x. absurd x)
input_caused old new (why.Test test call rule) h = (λ x. absurd x, λ x. absurd x, λ x. absurd x)
input_caused old new why.TooManyNodes h = (λ x. absurd x, λ x. absurd x, λ x. absurd x)
input_caused old new (why.NoSuchRow told index) h = (λ x. absurd x, λ x. absurd x, λ x. absurd x)
input_caused old new (why.Covered told index row test) h = (λ x. absurd x, λ x. absurd x, λ x. absurd x)
input_caused old new (why.Internal what) h = (λ x. absurd x, λ x. absurd x, λ x. absurd x)
input_caused old new why.Memory h = (λ x. absurd x, λ x. absurd x, λ x. absurd x)

-- ---- The refusal that a fault of the expansion is

expansion_kind : (f : PrepFault) → status_of (refusal_of f) ≢ 2
expansion_kind (prep.Lexical file at rule) = λ e. absurd (omega (arith, e))
expansion_kind (prep.Directive file at rule) = λ e. absurd (omega (arith, e))
expansion_kind (prep.ReadFault file) = λ e. absurd (omega (arith, e))
expansion_kind (prep.Missing file) = λ e. absurd (omega (arith, e))
expansion_kind (prep.TooLong file) = λ e. absurd (omega (arith, e))
expansion_kind prep.Memory = λ e. absurd (omega (arith, e))

expansion_caused : (old new : Counts) (f : PrepFault) → expansion.Caused old new f → Caused old new (refusal_of f)
expansion_caused old new (prep.Lexical file at rule) h = (λ x. absurd x, λ x. absurd x, λ x. absurd x)
expansion_caused old new (prep.Directive file at rule) h = (λ x. absurd x, λ x. absurd x, λ x. absurd x)
expansion_caused old new (prep.ReadFault file) h = (λ x. h, λ x. absurd x, λ x. absurd x)
expansion_caused old new (prep.Missing file) h = (λ x. absurd x, λ x. h, λ x. absurd x)
expansion_caused old new (prep.TooLong file) h = (λ x. absurd x, λ x. absurd x, λ x. h)
expansion_caused old new prep.Memory h = (λ x. absurd x, λ x. absurd x, λ x. absurd x)

expansion_named : (files : Files) (contents : List (List ℕ)) (bytes : List ℕ) (f : PrepFault) → Contains contents bytes → IsTold files bytes f → FaultNames (IsIncludedIn files contents) (refusal_of f)
expansion_named files contents bytes (prep.Lexical file at rule) among h = tt
expansion_named files contents bytes (prep.Directive file at rule) among h = tt
expansion_named files contents bytes (prep.ReadFault file) among h = (bytes, among, h)
expansion_named files contents bytes (prep.Missing file) among h = tt
expansion_named files contents bytes (prep.TooLong file) among h = tt
expansion_named files contents bytes prep.Memory among h = tt

-- ---- The refusal that a fault of the front end is

in_file_input : (file : Option (List ℕ)) (spot : Spot) (what : Fault) → IsOfInput (in_file file spot what)
in_file_input (Some file) spot what = tt
in_file_input None spot what = tt

function_input : (list : Names) (name : Option (List ℕ)) (rule : ℕ) → IsOfInput (of_function list name rule)
function_input Entries (Some name) rule = tt
function_input Environment (Some name) rule = tt
function_input Entries None rule = tt
function_input Environment None rule = tt

call_input : (test : Option (List ℕ)) (call rule : ℕ) → IsOfInput (of_call test call rule)
call_input (Some test) call rule = tt
call_input None call rule = tt

-- but for those of the expansion none is a refusal to read
other_input : (project : Project) (f : FrontFault) → IsOther f → IsOfInput (of_front project f)
other_input project (front.Expansion fault) h = absurd h
other_input project (front.At file spot fault) h = in_file_input (file_name (slice_get project.files file)) spot fault
other_input project (front.Name list index rule) h = function_input list (slice_get (names_in project list) index) rule
other_input project (front.Test test call rule) h = call_input (test_name (slice_get project.tests test)) call rule
other_input project front.TooManyNodes h = tt
other_input project front.Memory h = tt

meant_kind : (project : Project) (f : FrontFault) → status_of (of_front project f) ≢ 2
meant_kind project (front.Expansion fault) = expansion_kind fault
meant_kind project (front.At file spot fault) = input_kind _ (other_input project (front.At file spot fault) tt)
meant_kind project (front.Name list index rule) = input_kind _ (other_input project (front.Name list index rule) tt)
meant_kind project (front.Test test call rule) = input_kind _ (other_input project (front.Test test call rule) tt)
meant_kind project front.TooManyNodes = input_kind why.TooManyNodes tt
meant_kind project front.Memory = input_kind why.Memory tt

pub front_kind : (project : Project) (f : FrontFault) (r : Refusal) → IsRefusal (of_front project f) r → status_of r ≢ 2
front_kind project f r (inl e) = subst (λ q. status_of q ≢ 2) (sym e) (meant_kind project f)
front_kind project f r (inr e) = subst (λ q. status_of q ≢ 2) (sym e) (input_kind why.Memory tt)

meant_caused : (old new : Counts) (project : Project) (f : FrontFault) → IsCaused old new f → Caused old new (of_front project f)
meant_caused old new project (front.Expansion fault) c = expansion_caused old new fault c
meant_caused old new project (front.At file spot fault) c = input_caused old new _ (other_input project (front.At file spot fault) tt)
meant_caused old new project (front.Name list index rule) c = input_caused old new _ (other_input project (front.Name list index rule) tt)
meant_caused old new project (front.Test test call rule) c = input_caused old new _ (other_input project (front.Test test call rule) tt)
meant_caused old new project front.TooManyNodes c = input_caused old new why.TooManyNodes tt
meant_caused old new project front.Memory c = input_caused old new why.Memory tt

pub front_caused : (old new : Counts) (project : Project) (f : FrontFault) (r : Refusal) → IsCaused old new f → IsRefusal (of_front project f) r → Caused old new r
front_caused old new project f r c (inl e) = subst (Caused old new) (sym e) (meant_caused old new project f c)
front_caused old new project f r c (inr e) = subst (Caused old new) (sym e) (input_caused old new why.Memory tt)

meant_named : (files : Files) (contents : List (List ℕ)) (project : Project) (f : FrontFault) → IsToldIn files contents f → FaultNames (IsIncludedIn files contents) (of_front project f)
meant_named files contents project (front.Expansion fault) t = expansion_named files contents t.0 fault t.1 t.2
meant_named files contents project (front.At file spot fault) t = input_named (IsIncludedIn files contents) _ (other_input project (front.At file spot fault) tt)
meant_named files contents project (front.Name list index rule) t = input_named (IsIncludedIn files contents) _ (other_input project (front.Name list index rule) tt)
meant_named files contents project (front.Test test call rule) t = input_named (IsIncludedIn files contents) _ (other_input project (front.Test test call rule) tt)
meant_named files contents project front.TooManyNodes t = tt
meant_named files contents project front.Memory t = tt

front_named_over : (files : Files) (contents : List (List ℕ)) (project : Project) (f : FrontFault) (r : Refusal) → IsToldIn files contents f → IsRefusal (of_front project f) r
    → FaultNames (IsIncludedIn files contents) r
front_named_over files contents project f r t (inl e) = subst (FaultNames (IsIncludedIn files contents)) (sym e) (meant_named files contents project f t)
front_named_over files contents project f r t (inr e) = subst (FaultNames (IsIncludedIn files contents)) (sym e) tt

pub front_named : (o : Option Files) (contents : List (List ℕ)) (project : Project) (f : FrontFault) (r : Refusal) → IfSome o (λ files. IsToldIn files contents f) → IsRefusal (of_front project f) r
    → IfSome o (λ files. FaultNames (IsIncludedIn files contents) r)
front_named None contents project f r t h = tt
front_named (Some files) contents project f r t h = front_named_over files contents project f r t h

-- it is the reply, where its status is below 4
pub front_told : (project : Project) (f : FrontFault) (r : Refusal) → IsRefusal (of_front project f) r → status_of r < 4 → RefusesFiles project (reply_of r)
front_told project f r is below = (f, refuses (of_front project f) r (front_kind project f r is) is below)
