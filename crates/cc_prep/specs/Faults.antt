-- What the faults of an expansion say.
use Rattle.std.specs.Prelude.{◌≡◌, ◌<◌, ◌≤◌, ℕ, List, length, Option, Some, None}
use Rattle.std.specs.FinMap.{get}
use Rattle.cc_io.specs.Shelf.{Files}
use Rattle.cc_io.specs.Count.{Rose}
use Rattle.cc_lex.specs.Spots.{spot_at}
use Rattle.cc_lex.specs.Faults.{IsLeastFault}
use Rattle.cc_prep.specs.Files.{IsIncluded, IsPlace}
use Rattle.cc_prep.specs.declared.fault.Stop.{Stop}
use Rattle.cc_prep.specs.declared.fault.Stop.TheVariants as stop
use Rattle.cc_prep.specs.declared.fault.PrepFault.{PrepFault}
use Rattle.cc_prep.specs.declared.fault.PrepFault.TheVariants.{Lexical, Directive, ReadFault, Missing, TooLong, Memory}

-- how often a shelf failed, missed a name and met a long file
pub record Counts : Type 0 where
  pub faults : ℕ
  pub misses : ℕ
  pub longs : ℕ

abbrev pub counts_of : (faults misses longs : ℕ) → Counts
counts_of faults misses longs = record { faults = faults; misses = misses; longs = longs }

-- no count falls
abbrev pub NoneFalls : (old new : Counts) → Type 0
NoneFalls old new = (old.faults ≤ new.faults) × (old.misses ≤ new.misses) × (old.longs ≤ new.longs)

-- a fault of a reading comes only where its count rose
abbrev pub Caused : (old new : Counts) → PrepFault → Type 0
Caused old new (ReadFault file) = Rose old.faults new.faults
Caused old new (Missing file) = Rose old.misses new.misses
Caused old new (TooLong file) = Rose old.longs new.longs
Caused old new _ = Unit {0}

-- over these files a fault of a reading names a file that the bytes include, one that is missing is not held, and one that
-- is too long has more than 1,048,576 bytes
abbrev pub IsTold : Files → (bytes : List ℕ) → PrepFault → Type 0
IsTold files bytes (ReadFault file) = IsIncluded files bytes file
IsTold files bytes (Missing file) = IsIncluded files bytes file × (get files file ≡ None)
IsTold files bytes (TooLong file) = IsIncluded files bytes file × (contents : List ℕ) × (get files file ≡ Some contents) × (1048576 < length contents)
IsTold files bytes _ = Unit {0}

-- a lexical fault and one of a directive line name a place in the file of the project or in an included one
abbrev pub NamesPlace : Option Files → (name bytes : List ℕ) → PrepFault → Type 0
NamesPlace files name bytes (Lexical file at rule) = IsPlace files name bytes file at
NamesPlace files name bytes (Directive file at rule) = IsPlace files name bytes file at
NamesPlace files name bytes _ = Unit {0}

-- the fault is the lexical one of the bytes, at its place; or memory was wanting
abbrev pub IsLexicalOf : (name bytes : List ℕ) → PrepFault → Type 0
IsLexicalOf name bytes (Lexical file at rule) =
    (file ≡ name) × (offset : ℕ) × IsLeastFault bytes (offset, rule) × (offset ≤ length bytes → at ≡ spot_at bytes offset)
IsLexicalOf name bytes Memory = Unit {0}
IsLexicalOf name bytes _ = ⊥

-- the fault by which the reading of a file of this name stops; too many tokens stand in the project's
abbrev pub fault_of : (project file : List ℕ) → Stop → PrepFault
fault_of project file (stop.Lexical at rule) = Lexical file at rule
fault_of project file (stop.Directive at rule) = Directive file at rule
fault_of project file (stop.TooManyTokens at) = Directive project at 7
fault_of project file stop.Memory = Memory

-- the file of this name can't be had, and over these files it is so
abbrev pub IsUnread : Files → (name : List ℕ) → PrepFault → Type 0
IsUnread files name (ReadFault file) = file ≡ name
IsUnread files name (Missing file) = (file ≡ name) × (get files name ≡ None)
IsUnread files name (TooLong file) = (file ≡ name) × (contents : List ℕ) × (get files name ≡ Some contents) × (1048576 < length contents)
IsUnread files name Memory = Unit {0}
IsUnread files name _ = ⊥

-- no place is named
abbrev pub IsPlaceless : PrepFault → Type 0
IsPlaceless (Lexical file at rule) = ⊥
IsPlaceless (Directive file at rule) = ⊥
IsPlaceless _ = Unit {0}
