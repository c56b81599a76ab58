-- What the call answers for its words and the files of its shelf.
use Rattle.std.specs.Prelude.{◌≡◌, ◌⊎◌, ◌<◌, ◌≤◌, ◌++◌, ℕ, List, [], ◌∷◌, length, codes, Bool, true, false, MatchOption, Option}
use Rattle.std.specs.Fmt.{decimal}
use Rattle.std.specs.FinMap.{get}
use Rattle.cc_io.specs.Shelf.{Files}
use Rattle.cc_first.specs.Limit.{limit}
use Rattle.cc_first.specs.Listing.{IsListing}
use Rattle.cc_first.specs.Unit.{program_of}
use Rattle.cc_first_list.specs.First.{IsFirst}
use Rattle.cc_first_list.specs.Points.{points, most_points}
use Rattle.cc_gen.specs.Generated.{generated}
use Rattle.cc_device.specs.Outcome.{IsDevices, IsFault as IsDeviceFault}
use Rattle.cc_device.specs.declared.device.Device.{Device}
use Rattle.cc_device.specs.declared.fault.DeviceFault.{DeviceFault}
use Rattle.cc_device_runs.specs.Reports.{IsReport as IsDeviceReport}
use Rattle.cc_device_runs.specs.declared.fault.DeviceReportFault.{DeviceReportFault}
use Rattle.cc_front.specs.declared.fault.FrontFault.{FrontFault}
use Rattle.cc_listing.specs.Answers.{IsTable, RefusedWhole}
use Rattle.cc_listing.specs.declared.fault.ListFault.{ListFault}
use Rattle.cc_meaning.specs.declared.score.Justified.{Justified}
use Rattle.cc_meaning.specs.declared.test.Test.{Test}
use Rattle.cc_program.specs.declared.program.Program.{Program}
use Rattle.cc_project.specs.Project.{Project}
use Rattle.cc_project.specs.Outcome.{IsFault, IsProject}
use Rattle.cc_project.specs.WellMade.{file_names_of}
use Rattle.cc_project.specs.declared.fault.ProjectFault.TheVariants.{NotToml, Shape}
use Rattle.cc_reports.specs.Reports.{IsRefused, IsReport}
use Rattle.cc_reports.specs.declared.fault.ReportFault.{ReportFault}
use Rattle.cc_reports.specs.declared.kinds.Report.{Report}
use Rattle.cc_reports.specs.declared.kinds.Report.TheVariants.{Score, Tests, Pairs, Summary, Reduce, Order}
use Rattle.cc_tests.specs.Bound.{AreBound}
use Rattle.cc_top.specs.Justified.{justifications}
use Rattle.cc_top.specs.Words.{IsCount, IsNoCommand, devices_words, gen_words, words_of}
use Rattle.cc_top.specs.declared.words.Task.{Task}
use Rattle.cc_top.specs.declared.words.Task.TheVariants as task
use Rattle.cc_top.specs.declared.work.Work.{Work}
use Rattle.cc_top.specs.declared.work.Work.TheVariants as work
use Rattle.cc_top.specs.declared.refusal.Internal.TheVariants.{Generated}
use Rattle.cc_top.specs.declared.refusal.Refusal.{Refusal}
use Rattle.cc_top.specs.Refusal.{usage_line, missing_line, long_line, points_line, not_toml_line, shape_line, internal_line, line_of, status_of}
use Rattle.cc_top.specs.Refused.{of_device_report, of_devices, of_front, of_listing, of_report}

-- what is added to out and to err, and the status
pub record Reply : Type 0 where
  pub out : List ℕ
  pub err : List ℕ
  pub status : ℕ

abbrev pub refused : List ℕ → ℕ → Reply
refused line status = record { out = []; err = line; status = status }

abbrev pub done : List ℕ → Reply
done text = record { out = text; err = []; status = 0 }

-- the status of a text by whether each criterion that it judges is met
abbrev pub status_when : (is_met : Bool) → ℕ
status_when true = 0
status_when false = 1

-- a text with its status
abbrev pub made : (text : List ℕ) (is_met : Bool) → Reply
made text is_met = record { out = text; err = []; status = status_when is_met }

-- the file is not held, or too long, or its bytes lead on
abbrev pub AfterRead : Files → List ℕ → (List ℕ → Reply → Type 0) → Reply → Type 0
AfterRead files name next reply =
    MatchOption (get files name) (reply ≡ refused (missing_line name) 3)
    (λ bytes. ((limit < length bytes) × (reply ≡ refused (long_line name) 3)) ⊎ ((length bytes ≤ limit) × next bytes reply))

-- the files are read in their order; the first that is not held or too long is refused, and else their bytes lead on
abbrev pub AfterFiles : Files → List (List ℕ) → (List (List ℕ) → Reply → Type 0) → Reply → Type 0
AfterFiles files [] next reply = next [] reply
AfterFiles files (name ∷ names) next reply = AfterRead files name (λ bytes. AfterFiles files names (λ rest. next (bytes ∷ rest))) reply

-- `ok` and the counts of a project
abbrev pub counts_line : Project → (functions objects : ℕ) → List ℕ
counts_line project functions objects =
    codes "ok components " ++ (decimal (length project.components) ++ (codes " files " ++ (decimal (length project.files) ++ (codes " functions "
    ++ (decimal functions ++ (codes " objects " ++ (decimal objects ++ (codes " tests " ++ (decimal (length project.tests) ++ codes "\n")))))))))

-- the reply that a refusal is
abbrev pub reply_of : Refusal → Reply
reply_of refusal = refused (line_of refusal) (status_of refusal)

-- it is this refusal's, and its status is 3
abbrev pub Refuses : Refusal → Reply → Type 0
Refuses refusal reply = (status_of refusal ≡ 3) × (reply ≡ reply_of refusal)

-- the front end refuses the files. That they have this fault no definition says yet.
abbrev pub RefusesFiles : Project → Reply → Type 0
RefusesFiles project reply = (fault : FrontFault) × Refuses (of_front project fault) reply

-- The files are counted, or refused by the front end. The number of functions and objects no definition says yet.
abbrev pub OfChecked : Project → List (List ℕ) → Reply → Type 0
OfChecked project contents reply =
    ((functions objects : ℕ) × (reply ≡ done (counts_line project functions objects)))
    ⊎ RefusesFiles project reply

-- The table of a project of the first form; or it has more control points than there may be.
abbrev pub OfFirst : (bytes : List ℕ) (names contents : List (List ℕ)) → IsFirst bytes names contents → Reply → Type 0
OfFirst bytes names contents f reply =
    ((points f.parts f.others ≤ most_points) × (text : List ℕ) × IsListing f.project (program_of f.parts f.others) f.entry text × (reply ≡ done text))
    ⊎ ((most_points < points f.parts f.others) × (reply ≡ refused (points_line (points f.parts f.others)) 3))

-- The files are refused by the front end, or there is a program, whose table it is, or which has none for this fault. That the
-- program is that of the files no definition says yet.
abbrev pub OfWhole : Project → Reply → Type 0
OfWhole project reply =
    RefusesFiles project reply
    ⊎ ((P : Program) × (text : List ℕ) × IsTable P text × (reply ≡ done text))
    ⊎ ((P : Program) × (fault : ListFault) × RefusedWhole P fault × Refuses (of_listing fault) reply)

-- the files are listed, where these are the bytes of the project file: as those of the first form, or as any others
abbrev pub OfListed : List ℕ → Project → List (List ℕ) → Reply → Type 0
OfListed bytes project contents reply =
    ((f : IsFirst bytes (file_names_of project.files) contents) × OfFirst bytes (file_names_of project.files) contents f reply)
    ⊎ ((IsFirst bytes (file_names_of project.files) contents → ⊥) × OfWhole project reply)

-- whether a report's status is by its criteria: `score` and the summary judge them
abbrev pub judged : Report → (is_met : Bool) → Bool
judged Score is_met = is_met
judged Tests is_met = true
judged Pairs is_met = true
judged Reduce is_met = true
judged Order is_met = true
judged (Summary n) is_met = is_met

-- it is the report on a program with these tests and justifications, or there is none for this fault
abbrev pub OfProgram : Report → (name : List ℕ) → Program → List Test → Option (List Justified) → Reply → Type 0
OfProgram what name P tests justified reply =
    ((text : List ℕ) × (is_met : Bool) × IsReport what P tests justified text is_met × (reply ≡ made text (judged what is_met)))
    ⊎ ((fault : ReportFault) × IsRefused P tests justified fault × Refuses (of_report name tests fault) reply)

-- The files are refused by the front end, or there is a program, and it is the report on it with the tests of the project, each
-- call tied to the entry of the program that it names, and with the project's justifications. That the program is that of the
-- files no definition says yet.
abbrev pub OfReport : Report → (name : List ℕ) → Project → Reply → Type 0
OfReport what name project reply =
    RefusesFiles project reply
    ⊎ ((P : Program) × (tests : List Test) × AreBound P project.tests tests × OfProgram what name P tests (justifications project) reply)

-- it is the report on the devices of a program with these tests, or there is none for a fault: when that comes no definition
-- says yet
abbrev pub OfDeviceProgram : Program → List Test → List Device → Reply → Type 0
OfDeviceProgram P tests devices reply =
    ((text : List ℕ) × (is_met : Bool) × IsDeviceReport P tests devices text is_met × (reply ≡ made text is_met))
    ⊎ ((fault : DeviceReportFault) × Refuses (of_device_report fault) reply)

-- The files are refused by the front end; or the file of devices of this name with these bytes is; or there is a program, and it
-- is the report on its devices with the tests of the project. That the program is that of the files no definition says yet.
abbrev pub OfDevices : (name : List ℕ) → Project → (bytes : List ℕ) → Reply → Type 0
OfDevices name project bytes reply =
    RefusesFiles project reply
    ⊎ ((fault : DeviceFault) × IsDeviceFault project.environment bytes fault × Refuses (of_devices name fault) reply)
    ⊎ ((P : Program) × (tests : List Test) × AreBound P project.tests tests
    × ((all : List Device) × IsDevices project.environment bytes all × OfDeviceProgram P tests all reply))

-- what is done over files that are read, where the project file has this name and these bytes
abbrev pub OfFiles : Work → Files → (name bytes : List ℕ) → Project → List (List ℕ) → Reply → Type 0
OfFiles work.List files name bytes project contents reply = OfListed bytes project contents reply
OfFiles work.Check files name bytes project contents reply = OfChecked project contents reply
OfFiles (work.Report what) files name bytes project contents reply = OfReport what name project reply
OfFiles (work.Devices devices) files name bytes project contents reply = AfterRead files devices.now (OfDevices devices.now project) reply

-- the bytes are no document, or one that breaks a rule, or a project, whose files are read in their order and lead on
abbrev pub OfProject : (Project → List (List ℕ) → Reply → Type 0) → Files → (name bytes : List ℕ) → Reply → Type 0
OfProject next files name bytes reply =
    (IsFault bytes NotToml × (reply ≡ refused (not_toml_line name) 3))
    ⊎ ((key : List ℕ) × (rule : ℕ) × IsFault bytes (Shape key rule) × (reply ≡ refused (shape_line name key rule) 3))
    ⊎ ((project : Project) × IsProject bytes project × AfterFiles files (file_names_of project.files) (next project) reply)

-- what is done over the files of a project, where the project file has this name and these bytes
abbrev pub OfBytes : Work → Files → (name bytes : List ℕ) → Reply → Type 0
OfBytes w files name bytes reply = OfProject (OfFiles w files name bytes) files name bytes reply

-- the same for the device couplings: the file of devices is read after those of the project
abbrev pub OfDeviceBytes : (devices : List ℕ) → Files → (name bytes : List ℕ) → Reply → Type 0
OfDeviceBytes devices files name bytes reply = OfProject (λ project contents. AfterRead files devices (OfDevices devices project)) files name bytes reply

-- what is done for a task
abbrev pub work_of : Task → Work
work_of task.List = work.List
work_of task.Check = work.Check
work_of task.Score = work.Report Score
work_of task.Tests = work.Report Tests
work_of task.Pairs = work.Report Pairs
work_of task.Reduce = work.Report Reduce
work_of task.Order = work.Report Order

-- the name of a generated project
abbrev pub generated_name : List ℕ
generated_name = codes "p.toml"

-- The summary of the generated project of n components, over its own files; or a file of it can't be read. That this can't come
-- isn't proved.
abbrev pub OfGenerated : ℕ → Reply → Type 0
OfGenerated n reply =
    AfterRead (generated n) generated_name (OfBytes (work.Report (Summary n)) (generated n) generated_name) reply
    ⊎ (reply ≡ refused (internal_line Generated) 3)

-- the answer to the words over the files
abbrev pub IsAnswer : List (List ℕ) → Files → Reply → Type 0
IsAnswer words files reply =
    (IsNoCommand words × (reply ≡ refused usage_line 2))
    ⊎ ((t : Task) × (name : List ℕ) × (words ≡ words_of t name) × AfterRead files name (OfBytes (work_of t) files name) reply)
    ⊎ ((n : ℕ) × IsCount n × (words ≡ gen_words n) × OfGenerated n reply)
    ⊎ ((name devices : List ℕ) × (words ≡ devices_words name devices) × AfterRead files name (OfDeviceBytes devices files name) reply)
