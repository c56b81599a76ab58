-- What is told of the report on the devices of a program.
use Rattle.std.proofs.Common.{◌≡◌, ◌<◌, ◌≤◌, ◌⊎◌, ℕ, IfErr, IfSome, List, Option, Some, None, Ok, Err, inl, inr, ap, length, refl}
use Rattle.std.specs.Prelude.{Bool}
use Rattle.std.specs.FinMap.{get}
use Rattle.cc_device.specs.Outcome.{IsDevices, IsFault}
use Rattle.cc_device.specs.declared.device.Device.{Device}
use Rattle.cc_device.specs.declared.fault.DeviceFault.{DeviceFault}
use Rattle.cc_device_runs.specs.Reports.{IsReport}
use Rattle.cc_device_runs.specs.declared.fault.DeviceReportFault.{DeviceReportFault}
use Rattle.cc_front.specs.declared.fault.FrontFault.{FrontFault}
use Rattle.cc_io.specs.Shelf.{Files}
use Rattle.cc_meaning.specs.declared.test.Test.{Test}
use Rattle.cc_program.specs.declared.program.Program.{Program}
use Rattle.cc_project.specs.Project.{Project}
use Rattle.cc_tests.specs.Bound.{AreBound}
use Rattle.cc_top.proofs.CheckFacts.{refuses}
use Rattle.cc_top.proofs.FrontFacts.{front_told, input_kind}
use Rattle.cc_top.proofs.Tells.{Outcome, names_weaker, tells_weaker}
use Rattle.cc_top.specs.Answer.{OfDeviceProgram, OfDevices, made, reply_of}
use Rattle.cc_top.specs.Reads.{IsIncludedIn}
use Rattle.cc_top.specs.Refusal.{FaultNames, IsOfInput, status_of}
use Rattle.cc_top.specs.Refused.{IsRefusal, of_device_report, of_devices, of_front}
use Rattle.cc_top.specs.Tells.{Tells}
use Rattle.cc_top.specs.declared.refusal.Refusal.{Refusal}

pub report_told : (P : Program) (tests : List Test) (all : List Device) (text : List ℕ) (is_met : Bool) → IsReport P tests all text is_met → OfDeviceProgram P tests all (made text is_met)
report_told P tests all text is_met is = inl (text, is_met, is, refl)

pub fault_told : (P : Program) (tests : List Test) (all : List Device) (fault : DeviceReportFault) (r : Refusal) → r ≡ of_device_report fault → IsOfInput r → status_of r < 4
    → OfDeviceProgram P tests all (reply_of r)
fault_told P tests all fault r is input below = inr (fault, refuses (of_device_report fault) r (input_kind r input) (inl is) below)

-- what is told of the program is told of the file of devices
pub program_told : (name : List ℕ) (project : Project) (bytes : List ℕ) (P : Program) (tests : List Test) (all : List Device) (r : Outcome) → AreBound P project.tests tests
    → IsDevices project.environment bytes all → Tells (OfDeviceProgram P tests all) r → Tells (OfDevices name project bytes) r
program_told name project bytes P tests all r bound is h =
    tells_weaker (OfDeviceProgram P tests all) (OfDevices name project bytes) (λ reply of. inr (inr (P, tests, bound, (all, is, of)))) r h

pub shape_told : (name : List ℕ) (project : Project) (bytes : List ℕ) (fault : DeviceFault) (r : Refusal) → IsFault project.environment bytes fault → IsOfInput r → IsRefusal (of_devices name fault) r
    → status_of r < 4 → OfDevices name project bytes (reply_of r)
shape_told name project bytes fault r why input is below = inr (inl (fault, why, refuses (of_devices name fault) r (input_kind r input) is below))

-- of files that the front end refuses there is none
pub files_refused : (name : List ℕ) (project : Project) (bytes : List ℕ) (fault : FrontFault) (r : Refusal) → IsRefusal (of_front project fault) r → status_of r < 4
    → OfDevices name project bytes (reply_of r)
files_refused name project bytes fault r is below = inl (front_told project fault r is below)

-- a read fault names the file of devices, or an included one
pub devices_named : (o : Option Files) (name : List ℕ) (contents : List (List ℕ)) (refusal : Refusal) → FaultNames (λ told. told ≡ name) refusal
    → IfSome o (λ files. FaultNames (λ told. (told ≡ name) ⊎ IsIncludedIn files contents told) refusal)
devices_named None name contents refusal h = tt
devices_named (Some files) name contents refusal h =
    names_weaker (λ told. told ≡ name) (λ told. (told ≡ name) ⊎ IsIncludedIn files contents told) (λ told e. inl e) (Err refusal) h

pub included_named : (o : Option Files) (name : List ℕ) (contents : List (List ℕ)) (r : Outcome) → IfSome o (λ files. IfErr r (FaultNames (IsIncludedIn files contents)))
    → IfSome o (λ files. IfErr r (FaultNames (λ told. (told ≡ name) ⊎ IsIncludedIn files contents told)))
included_named None name contents r h = tt
included_named (Some files) name contents r h =
    names_weaker (IsIncludedIn files contents) (λ told. (told ≡ name) ⊎ IsIncludedIn files contents told) (λ told of. inr of) r h
