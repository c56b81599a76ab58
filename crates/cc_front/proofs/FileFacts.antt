-- The faults of a file, as faults of the project's files.
use Rattle.std.proofs.Common.{◌≡◌, ℕ, List, Result, Ok, Err, sym, subst}
use Rattle.std.specs.Prelude.{Contains, IfErr, IfSome, None, Option, Some, slice_get}
use Rattle.std.proofs.lemmas.Option.{get_or_from_slice_get, slice_get_within}
use Rattle.cc_io.specs.Shelf.{Files}
use Rattle.cc_prep.specs.Faults.{Counts}
use Rattle.cc_front.specs.Faults.{IsCaused, IsOther, IsToldIn, IsFileCaused, IsFileTold, IsNoExpansion, in_file}
use Rattle.cc_front.specs.declared.fault.FileFault.{FileFault}
use Rattle.cc_front.specs.declared.fault.FileFault.TheVariants as file
use Rattle.cc_front.specs.declared.fault.FrontFault.{FrontFault}
use Rattle.cc_front.specs.declared.fault.FrontFault.TheVariants as front

file_caused : (old new : Counts) (f : FileFault) (number : ℕ) → IsFileCaused old new f → IsCaused old new (in_file f number)
file_caused old new (file.Expansion fault) number h = h
file_caused old new (file.At spot fault) number h = tt
file_caused old new file.TooManyNodes number h = tt
file_caused old new file.Memory number h = tt

pub caused_in : (old new : Counts) (f : FileFault) (number : ℕ) (r : FrontFault) → r ≡ in_file f number → IsFileCaused old new f → IsCaused old new r
caused_in old new f number r e h = subst (IsCaused old new) (sym e) (file_caused old new f number h)

file_told : (files : Files) (contents : List (List ℕ)) (bytes : List ℕ) (f : FileFault) (number : ℕ) → Contains contents bytes → IsFileTold files bytes f → IsToldIn files contents (in_file f number)
file_told files contents bytes (file.Expansion fault) number among h = (bytes, among, h)
file_told files contents bytes (file.At spot fault) number among h = tt
file_told files contents bytes file.TooManyNodes number among h = tt
file_told files contents bytes file.Memory number among h = tt

pub told_in : (o : Option Files) (contents : List (List ℕ)) (bytes : List ℕ) (f : FileFault) (number : ℕ) (r : FrontFault) → r ≡ in_file f number → Contains contents bytes
    → IfSome o (λ files. IsFileTold files bytes f) → IfSome o (λ files. IsToldIn files contents r)
told_in None contents bytes f number r e among h = tt
told_in (Some files) contents bytes f number r e among h = subst (IsToldIn files contents) (sym e) (file_told files contents bytes f number among h)

-- an item of a list
pub item_among : {A : Type 0} (xs : List A) (k : ℕ) (x : A) → slice_get xs k ≡ Some x → Contains xs x
item_among xs k x e = (k, slice_get_within xs k x e, get_or_from_slice_get xs k x x e)

-- a fault behind the expansion is told of nothing
pub none_caused : (old new : Counts) (f : FileFault) → IsNoExpansion f → IsFileCaused old new f
none_caused old new (file.Expansion fault) h = absurd h
none_caused old new (file.At spot fault) h = tt
none_caused old new file.TooManyNodes h = tt
none_caused old new file.Memory h = tt

none_told_over : (files : Files) (bytes : List ℕ) (f : FileFault) → IsNoExpansion f → IsFileTold files bytes f
none_told_over files bytes (file.Expansion fault) h = absurd h
none_told_over files bytes (file.At spot fault) h = tt
none_told_over files bytes file.TooManyNodes h = tt
none_told_over files bytes file.Memory h = tt

pub none_told : (o : Option Files) (bytes : List ℕ) (f : FileFault) → IsNoExpansion f → IfSome o (λ files. IsFileTold files bytes f)
none_told None bytes f h = tt
none_told (Some files) bytes f h = none_told_over files bytes f h

pub none_caused_by : {T : Type 0} (old new : Counts) (r : Result T FileFault) → IfErr r IsNoExpansion → IfErr r (IsFileCaused old new)
none_caused_by old new (Ok x) h = tt
none_caused_by old new (Err f) h = none_caused old new f h

pub none_told_by : {T : Type 0} (o : Option Files) (bytes : List ℕ) (r : Result T FileFault) → IfErr r IsNoExpansion → IfSome o (λ files. IfErr r (IsFileTold files bytes))
none_told_by None bytes r h = tt
none_told_by (Some files) bytes (Ok x) h = tt
none_told_by (Some files) bytes (Err f) h = none_told_over files bytes f h

-- ---- Faults of the program and its tests

pub other_caused : (old new : Counts) (f : FrontFault) → IsOther f → IsCaused old new f
other_caused old new (front.Expansion fault) h = absurd h
other_caused old new (front.At number spot fault) h = tt
other_caused old new (front.Name list index rule) h = tt
other_caused old new (front.Test test call rule) h = tt
other_caused old new front.TooManyNodes h = tt
other_caused old new front.Memory h = tt

other_told_over : (files : Files) (contents : List (List ℕ)) (f : FrontFault) → IsOther f → IsToldIn files contents f
other_told_over files contents (front.Expansion fault) h = absurd h
other_told_over files contents (front.At number spot fault) h = tt
other_told_over files contents (front.Name list index rule) h = tt
other_told_over files contents (front.Test test call rule) h = tt
other_told_over files contents front.TooManyNodes h = tt
other_told_over files contents front.Memory h = tt

pub other_told : (o : Option Files) (contents : List (List ℕ)) (f : FrontFault) → IsOther f → IfSome o (λ files. IsToldIn files contents f)
other_told None contents f h = tt
other_told (Some files) contents f h = other_told_over files contents f h

pub other_caused_by : {T : Type 0} (old new : Counts) (r : Result T FrontFault) → IfErr r IsOther → IfErr r (IsCaused old new)
other_caused_by old new (Ok x) h = tt
other_caused_by old new (Err f) h = other_caused old new f h

pub other_told_by : {T : Type 0} (o : Option Files) (contents : List (List ℕ)) (r : Result T FrontFault) → IfErr r IsOther → IfSome o (λ files. IfErr r (IsToldIn files contents))
other_told_by None contents r h = tt
other_told_by (Some files) contents (Ok x) h = tt
other_told_by (Some files) contents (Err f) h = other_told_over files contents f h
