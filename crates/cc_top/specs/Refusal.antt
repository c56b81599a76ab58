-- A refusal's line and status, and where it comes.
use Rattle.std.specs.Prelude.{◌≡◌, ◌⊎◌, ◌<◌, ◌+◌, ◌++◌, ℕ, List, [], ◌∷◌, length, codes, Some, None}
use Rattle.std.specs.FinMap.{get}
use Rattle.std.specs.Fmt.{decimal}
use Rattle.cc_front.specs.declared.fault.Fault.{Fault}
use Rattle.cc_front.specs.declared.fault.Fault.TheVariants as fault
use Rattle.cc_base.specs.declared.place.Spot.{Spot}
use Rattle.cc_io.specs.Shelf.{Files}
use Rattle.cc_prep.specs.declared.fault.PrepFault.{PrepFault}
use Rattle.cc_prep.specs.declared.fault.PrepFault.TheVariants as prep
use Rattle.cc_first.specs.Limit.{limit}
use Rattle.cc_top.specs.Holds.{Holds}
use Rattle.cc_project.specs.declared.fault.ProjectFault.{ProjectFault}
use Rattle.cc_project.specs.declared.fault.ProjectFault.TheVariants as why
use Rattle.cc_top.specs.declared.refusal.At.{At}
use Rattle.cc_top.specs.declared.refusal.Internal.{Internal as Inner}
use Rattle.cc_top.specs.declared.refusal.Internal.TheVariants as inner
use Rattle.cc_top.specs.declared.refusal.Refusal.{Refusal}
use Rattle.cc_top.specs.declared.refusal.Refusal.TheVariants.{Usage, ReadFault, Missing, TooLong, NotToml, Shape, DeviceShape, Entry, Environment, Test, TooManyNodes, TooManyPoints, TooManyFacts, TooManyRows, NoSuchRow, Covered, Internal, Memory}
use Rattle.cc_top.specs.declared.refusal.Refusal.TheVariants as refusal

abbrev pub usage_line : List ℕ
usage_line = codes "usage: coupling check|list|score|tests|pairs P | gen N | devices P D | reduce P | order P\n"

abbrev pub missing_line : List ℕ → List ℕ
missing_line name = name ++ codes ": missing\n"

abbrev pub long_line : List ℕ → List ℕ
long_line name = name ++ codes ": too long\n"

-- so many control points are too many
abbrev pub points_line : ℕ → List ℕ
points_line count = codes "too many control points: " ++ (decimal count ++ codes "\n")

abbrev pub memory_line : List ℕ
memory_line = codes "out of memory\n"

abbrev pub not_toml_line : List ℕ → List ℕ
not_toml_line name = name ++ codes ": not TOML\n"

-- a rule of the project file that fails at a key
abbrev pub shape_line : (name key : List ℕ) (rule : ℕ) → List ℕ
shape_line name key rule = name ++ (codes ": J" ++ (decimal rule ++ (codes " " ++ (key ++ codes "\n"))))

-- a rule of the file of devices that fails at a key
abbrev pub devices_line : (name key : List ℕ) (rule : ℕ) → List ℕ
devices_line name key rule = name ++ (codes ": V" ++ (decimal rule ++ (codes " " ++ (key ++ codes "\n"))))

-- what is wrong at a place
abbrev pub fault_text : Fault → List ℕ
fault_text (fault.Lexical rule) = codes "lexical L" ++ decimal rule
fault_text (fault.Directive rule) = codes "directive M" ++ decimal rule
fault_text fault.Syntax = codes "syntax"
fault_text fault.TooDeep = codes "too deep"
fault_text (fault.Offence rule) = codes "offence C" ++ decimal rule
fault_text (fault.Link rule) = codes "link K" ++ decimal rule

-- `file:line:column: what`
abbrev pub at_line : At → List ℕ
at_line at = at.file ++ (codes ":" ++ (decimal at.spot.line ++ (codes ":" ++ (decimal at.spot.column ++ (codes ": " ++ (fault_text at.fault ++ codes "\n"))))))

abbrev pub entry_line : (name : List ℕ) (rule : ℕ) → List ℕ
entry_line name rule = codes "entry " ++ (name ++ (codes ": link K" ++ (decimal rule ++ codes "\n")))

abbrev pub environment_line : (name : List ℕ) (rule : ℕ) → List ℕ
environment_line name rule = codes "environment " ++ (name ++ (codes ": link K" ++ (decimal rule ++ codes "\n")))

-- the line of a call, which it counts from 1
abbrev pub test_line : (test : List ℕ) (call rule : ℕ) → List ℕ
test_line test call rule = codes "test " ++ (test ++ (codes " call " ++ (decimal (call + 1) ++ (codes ": B" ++ (decimal rule ++ codes "\n")))))

-- a justification, by its number, whose line is that of no row
abbrev pub no_row_line : (name : List ℕ) (index : ℕ) → List ℕ
no_row_line name index = name ++ (codes ": Q1 justified[" ++ (decimal index ++ codes "]\n"))

-- a justified row, which the line counts from 1, that a test exercises
abbrev pub covered_line : (name : List ℕ) (index row : ℕ) (test : List ℕ) → List ℕ
covered_line name index row test =
    name ++ (codes ": Q2 justified[" ++ (decimal index ++ (codes "] row " ++ (decimal (row + 1) ++ (codes " " ++ (test ++ codes "\n"))))))

-- what should not come
abbrev pub internal_text : Inner → List ℕ
internal_text inner.Number = codes "a number without a name"
internal_text inner.Machine = codes "the machine is lost"
internal_text inner.Watched = codes "runs can't be watched"
internal_text inner.Generated = codes "a generated file can't be read"

abbrev pub internal_line : Inner → List ℕ
internal_line what = codes "internal: " ++ (internal_text what ++ codes "\n")

-- the line that stands on err
abbrev pub line_of : Refusal → List ℕ
line_of Usage = usage_line
line_of (ReadFault name) = name ++ codes ": read fault\n"
line_of (Missing name) = missing_line name
line_of (TooLong name) = long_line name
line_of (NotToml name) = not_toml_line name
line_of (Shape name key rule) = shape_line name key rule
line_of (DeviceShape name key rule) = devices_line name key rule
line_of (refusal.At at) = at_line at
line_of (Entry name rule) = entry_line name rule
line_of (Environment name rule) = environment_line name rule
line_of (Test test call rule) = test_line test call rule
line_of TooManyNodes = codes "too many nodes\n"
line_of (TooManyPoints count) = points_line count
line_of TooManyFacts = codes "too many facts\n"
line_of TooManyRows = codes "too many rows\n"
line_of (NoSuchRow name index) = no_row_line name index
line_of (Covered name index row test) = covered_line name index row test
line_of (Internal what) = internal_line what
line_of Memory = memory_line

abbrev pub status_of : Refusal → ℕ
status_of Usage = 2
status_of (ReadFault name) = 4
status_of Memory = 5
status_of _ = 3

-- a refusal of this kind
abbrev pub IsReadFault : Refusal → Type 0
IsReadFault (ReadFault name) = Unit {0}
IsReadFault _ = ⊥

abbrev pub IsMissing : Refusal → Type 0
IsMissing (Missing name) = Unit {0}
IsMissing _ = ⊥

abbrev pub IsTooLong : Refusal → Type 0
IsTooLong (TooLong name) = Unit {0}
IsTooLong _ = ⊥

-- a reading of the name may be refused so, over these files
abbrev pub RefusesRead : Files → List ℕ → Refusal → Type 0
RefusesRead files name (ReadFault told) = told ≡ name
RefusesRead files name (Missing told) = (told ≡ name) × (get files name ≡ None)
RefusesRead files name (TooLong told) = (told ≡ name) × (bytes : List ℕ) × (get files name ≡ Some bytes) × (limit < length bytes)
RefusesRead files name Memory = Unit {0}
RefusesRead files name _ = ⊥

-- a read fault names a file of which P holds
abbrev pub FaultNames : (List ℕ → Type 0) → Refusal → Type 0
FaultNames P (ReadFault told) = P told
FaultNames P _ = Unit {0}

-- what is read is refused, and no reading; or memory was wanting
abbrev pub IsOfInput : Refusal → Type 0
IsOfInput Usage = ⊥
IsOfInput (ReadFault name) = ⊥
IsOfInput (Missing name) = ⊥
IsOfInput (TooLong name) = ⊥
IsOfInput _ = Unit {0}

-- what is a refusal over files that nobody handed over: where one can't be read, that should not come
abbrev pub of_generated : Refusal → Refusal
of_generated (ReadFault name) = Internal inner.Generated
of_generated (Missing name) = Internal inner.Generated
of_generated (TooLong name) = Internal inner.Generated
of_generated refused = refused

-- something is wrong at a place of a file
abbrev pub refusal_at : List ℕ → Spot → Fault → Refusal
refusal_at file spot what = refusal.At (record { file = file; spot = spot; fault = what })

-- why a file has no tokens once its directive lines are carried out
abbrev pub refusal_of : PrepFault → Refusal
refusal_of (prep.Lexical file spot rule) = refusal_at file spot (fault.Lexical rule)
refusal_of (prep.Directive file spot rule) = refusal_at file spot (fault.Directive rule)
refusal_of (prep.ReadFault file) = ReadFault file
refusal_of (prep.Missing file) = Missing file
refusal_of (prep.TooLong file) = TooLong file
refusal_of prep.Memory = Memory

-- the reading of these files in their order is refused so
abbrev pub RefusesOne : Files → List (List ℕ) → Refusal → Type 0
RefusesOne files [] refused = ⊥
RefusesOne files (name ∷ names) refused =
    RefusesRead files name refused ⊎ ((bytes : List ℕ) × Holds files name bytes × RefusesOne files names refused)

-- the bytes of the project file of this name are refused for this fault; or memory was wanting
abbrev pub RefusesProject : List ℕ → ProjectFault → Refusal → Type 0
RefusesProject name why.NotToml (NotToml told) = told ≡ name
RefusesProject name (why.Shape key rule) (Shape told key' rule') = (told ≡ name) × (key' ≡ key) × (rule' ≡ rule)
RefusesProject name fault Memory = Unit {0}
RefusesProject name fault _ = ⊥
