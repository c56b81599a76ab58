-- What the faults of the front end say of the files that are included.
use Rattle.std.specs.Prelude.{ℕ, List, Contains}
use Rattle.cc_io.specs.Shelf.{Files}
use Rattle.cc_prep.specs.Faults.{Counts, Caused, IsTold}
use Rattle.cc_front.specs.declared.fault.FileFault.{FileFault}
use Rattle.cc_front.specs.declared.fault.FileFault.TheVariants as file
use Rattle.cc_front.specs.declared.fault.FrontFault.{FrontFault}
use Rattle.cc_front.specs.declared.fault.FrontFault.TheVariants as front

-- a fault of the reading of an included file comes only where its count rose
abbrev pub IsCaused : (old new : Counts) → FrontFault → Type 0
IsCaused old new (front.Expansion fault) = Caused old new fault
IsCaused old new _ = Unit {0}

-- and over these files it is told of a file that one of the project's files includes
abbrev pub IsToldIn : Files → (contents : List (List ℕ)) → FrontFault → Type 0
IsToldIn files contents (front.Expansion fault) = (bytes : List ℕ) × Contains contents bytes × IsTold files bytes fault
IsToldIn files contents _ = Unit {0}

-- a fault of another kind
abbrev pub IsOther : FrontFault → Type 0
IsOther (front.Expansion fault) = ⊥
IsOther _ = Unit {0}

-- the same of one file, whichever it is
abbrev pub IsFileCaused : (old new : Counts) → FileFault → Type 0
IsFileCaused old new (file.Expansion fault) = Caused old new fault
IsFileCaused old new _ = Unit {0}

abbrev pub IsFileTold : Files → (bytes : List ℕ) → FileFault → Type 0
IsFileTold files bytes (file.Expansion fault) = IsTold files bytes fault
IsFileTold files bytes _ = Unit {0}

abbrev pub IsNoExpansion : FileFault → Type 0
IsNoExpansion (file.Expansion fault) = ⊥
IsNoExpansion _ = Unit {0}

-- the fault of the file of this number
abbrev pub in_file : FileFault → ℕ → FrontFault
in_file (file.Expansion fault) number = front.Expansion fault
in_file (file.At spot fault) number = front.At number spot fault
in_file file.TooManyNodes number = front.TooManyNodes
in_file file.Memory number = front.Memory
