-- What a report is, and why there is none.
use Rattle.std.specs.Prelude.{◌≡◌, ℕ, List, Bool, Option, Some, None, option_map}
use Rattle.cc_listing.specs.Answers.{RefusedWhole}
use Rattle.cc_meaning.specs.declared.coupling.Coupling.{Coupling}
use Rattle.cc_meaning.specs.declared.score.Justified.{Justified}
use Rattle.cc_meaning.specs.declared.score.RowReason.{RowReason}
use Rattle.cc_meaning.specs.declared.score.Scores.{Scores}
use Rattle.cc_meaning.specs.declared.test.Test.{Test}
use Rattle.cc_program.specs.declared.program.Program.{Program}
use Rattle.cc_program.specs.Programs.{number_of}
use Rattle.cc_score.specs.declared.clash.Conflict.{Conflict}
use Rattle.cc_reports.specs.declared.fault.ReportFault.{ReportFault}
use Rattle.cc_reports.specs.declared.fault.ReportFault.TheVariants as fault
use Rattle.cc_reports.specs.declared.kinds.Report.{Report}
use Rattle.cc_reports.specs.Found.{AreScores, HasRows, IsAstray, IsConflict, IsFound, IsListed, IsUnfitted, first_unknown, reasons_of}
use Rattle.cc_reports.specs.Texts.{IsText, is_met}

-- The text is what the command prints of the program and its tests, and the flag tells whether the criteria are met.
pub record IsReport (what : Report) (P : Program) (tests : List Test) (justified : Option (List Justified)) (text : List ℕ) (met : Bool) : Type 0 where
  pub rows : List Coupling
  pub reasons : Option (List (Option RowReason))
  pub scores : Scores
  pub found : IsFound P tests justified rows reasons scores
  pub says : IsText what P tests rows reasons scores text
  pub tells : met ≡ is_met rows reasons scores

-- the first justification whose line is no row's text is the one of this number
abbrev pub IsUnknown : Program → Option (List Justified) → ℕ → Type 0
IsUnknown P justified index =
    (rows : List Coupling) × IsListed P rows × (option_map number_of (first_unknown P rows justified) ≡ Some index)

-- each justification has a row, and a test exercises a row that is justified: this is the first of them
pub record IsCovered (P : Program) (tests : List Test) (justified : Option (List Justified)) (c : Conflict) : Type 0 where
  pub rows : List Coupling
  pub scores : Scores
  pub listed : IsListed P rows
  pub known : first_unknown P rows justified ≡ None
  pub scored : AreScores P rows tests scores
  pub conflict : IsConflict scores.marks (reasons_of P rows justified) c

-- Why there is no report; of want of memory nothing is said. `Internal` of a listing should not come (docs/open.md), and nothing
-- is said of it.
abbrev pub IsRefused : Program → List Test → Option (List Justified) → ReportFault → Type 0
IsRefused P tests justified (fault.List why) = RefusedWhole P why
IsRefused P tests justified (fault.NoSuchRow index) = IsUnknown P justified index
IsRefused P tests justified (fault.Covered conflict) = IsCovered P tests justified conflict
IsRefused P tests justified fault.Lost = HasRows P justified × IsAstray tests
IsRefused P tests justified fault.Unfit = HasRows P justified × IsUnfitted P
IsRefused P tests justified fault.Memory = Unit {0}
