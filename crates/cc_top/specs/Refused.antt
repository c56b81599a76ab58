-- The refusals that faults are: of the front end, of a listing, of a report.
use Rattle.std.specs.Prelude.{◌≡◌, ◌⊎◌, ℕ, List, Option, Some, None, slice_get}
use Rattle.cc_base.specs.declared.place.Spot.{Spot}
use Rattle.cc_device.specs.declared.fault.DeviceFault.{DeviceFault}
use Rattle.cc_device.specs.declared.fault.DeviceFault.TheVariants as device
use Rattle.cc_device_runs.specs.declared.fault.DeviceReportFault.{DeviceReportFault}
use Rattle.cc_device_runs.specs.declared.fault.DeviceReportFault.TheVariants as uses
use Rattle.cc_front.specs.declared.fault.Fault.{Fault}
use Rattle.cc_front.specs.declared.fault.FrontFault.{FrontFault}
use Rattle.cc_front.specs.declared.fault.FrontFault.TheVariants as front
use Rattle.cc_link_rules.specs.declared.fault.Names.{Names}
use Rattle.cc_link_rules.specs.declared.fault.Names.TheVariants.{Entries, Environment}
use Rattle.cc_listing.specs.declared.fault.ListFault.{ListFault}
use Rattle.cc_listing.specs.declared.fault.ListFault.TheVariants as list
use Rattle.cc_meaning.specs.declared.test.Test.{Test}
use Rattle.cc_project.specs.Project.{Project}
use Rattle.cc_project.specs.declared.project.ProjectFile.{ProjectFile}
use Rattle.cc_project.specs.declared.project.RawTest.{RawTest}
use Rattle.cc_reports.specs.declared.fault.ReportFault.{ReportFault}
use Rattle.cc_reports.specs.declared.fault.ReportFault.TheVariants as report
use Rattle.cc_score.specs.declared.clash.Conflict.{Conflict}
use Rattle.cc_top.specs.Refusal.{refusal_at, refusal_of}
use Rattle.cc_top.specs.declared.refusal.Internal.TheVariants as inner
use Rattle.cc_top.specs.declared.refusal.Refusal.{Refusal}
use Rattle.cc_top.specs.declared.refusal.Refusal.TheVariants as why

-- what should not come: a number of which there is no name
abbrev pub nameless : Refusal
nameless = why.Internal inner.Number

-- something is wrong at a place of a file, where this is its name
abbrev pub in_file : Option (List ℕ) → Spot → Fault → Refusal
in_file (Some file) spot what = refusal_at file spot what
in_file None spot what = nameless

-- an entry of this name, or a function of the environment, breaks a rule
abbrev pub of_function : Names → Option (List ℕ) → (rule : ℕ) → Refusal
of_function Entries (Some name) rule = why.Entry name rule
of_function Environment (Some name) rule = why.Environment name rule
of_function list None rule = nameless

-- a call of a test of this name breaks a rule
abbrev pub of_call : Option (List ℕ) → (call rule : ℕ) → Refusal
of_call (Some test) call rule = why.Test test call rule
of_call None call rule = nameless

abbrev pub file_name : Option ProjectFile → Option (List ℕ)
file_name (Some file) = Some file.name
file_name None = None

abbrev pub test_name : Option RawTest → Option (List ℕ)
test_name (Some test) = Some test.name
test_name None = None

-- the functions of the project file in this list
abbrev pub names_in : Project → Names → List (List ℕ)
names_in project Entries = project.entries
names_in project Environment = project.environment

-- the refusal that a fault of the front end is: where it names a file, a function or a test by its number, this is its name
abbrev pub of_front : Project → FrontFault → Refusal
of_front project (front.Expansion fault) = refusal_of fault
of_front project (front.At file spot fault) = in_file (file_name (slice_get project.files file)) spot fault
of_front project (front.Name list index rule) = of_function list (slice_get (names_in project list) index) rule
of_front project (front.Test test call rule) = of_call (test_name (slice_get project.tests test)) call rule
of_front project front.TooManyNodes = why.TooManyNodes
of_front project front.Memory = why.Memory

-- the refusal that a fault of a listing is
abbrev pub of_listing : ListFault → Refusal
of_listing (list.TooManyPoints count) = why.TooManyPoints count
of_listing list.TooManyFacts = why.TooManyFacts
of_listing list.TooManyRows = why.TooManyRows
of_listing list.Internal = nameless
of_listing list.Memory = why.Memory

abbrev pub bound_name : Option Test → Option (List ℕ)
bound_name (Some test) = Some test.name
bound_name None = None

-- the refusal for a row with a reason that a test exercises, where this is the name of the test
abbrev pub of_conflict : (name : List ℕ) → Conflict → Option (List ℕ) → Refusal
of_conflict name conflict (Some test) = why.Covered name conflict.index conflict.row test
of_conflict name conflict None = nameless

-- the refusal that a fault of a report is, where the project file has this name
abbrev pub of_report : (name : List ℕ) → List Test → ReportFault → Refusal
of_report name tests (report.List fault) = of_listing fault
of_report name tests (report.NoSuchRow index) = why.NoSuchRow name index
of_report name tests (report.Covered conflict) = of_conflict name conflict (bound_name (slice_get tests conflict.test))
of_report name tests report.Lost = why.Internal inner.Machine
of_report name tests report.Unfit = why.Internal inner.Watched
of_report name tests report.Memory = why.Memory

-- the refusal that a fault of the file of devices is, where the file has this name
abbrev pub of_devices : (name : List ℕ) → DeviceFault → Refusal
of_devices name device.NotToml = why.NotToml name
of_devices name (device.Shape key rule) = why.DeviceShape name key rule
of_devices name device.Memory = why.Memory

-- the refusal that a fault of the report on devices is
abbrev pub of_device_report : DeviceReportFault → Refusal
of_device_report (uses.List fault) = of_listing fault
of_device_report uses.Lost = why.Internal inner.Machine
of_device_report uses.Memory = why.Memory

-- it is this refusal, or memory was wanting for its names
abbrev pub IsRefusal : Refusal → Refusal → Type 0
IsRefusal meant refused = (refused ≡ meant) ⊎ (refused ≡ why.Memory)
