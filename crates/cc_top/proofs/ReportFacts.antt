-- What is told of the report on a program.
use Rattle.std.proofs.Common.{◌≡◌, ◌≢◌, ◌<◌, ℕ, IfErr, IfSome, List, Option, Some, None, Ok, Err, inl, inr, ap, subst}
use Rattle.std.specs.Prelude.{Bool}
use Rattle.cc_front.specs.declared.fault.FrontFault.{FrontFault}
use Rattle.cc_io.specs.Shelf.{Files}
use Rattle.cc_meaning.specs.declared.score.Justified.{Justified}
use Rattle.cc_meaning.specs.declared.test.Test.{Test}
use Rattle.cc_program.specs.declared.program.Program.{Program}
use Rattle.cc_project.specs.Project.{Project}
use Rattle.cc_reports.specs.Reports.{IsRefused, IsReport}
use Rattle.cc_reports.specs.declared.fault.ReportFault.{ReportFault}
use Rattle.cc_reports.specs.declared.kinds.Report.{Report}
use Rattle.cc_tests.specs.Bound.{AreBound}
use Rattle.cc_top.proofs.CheckFacts.{input_named, refuses}
use Rattle.cc_top.proofs.FrontFacts.{front_told, input_caused, input_kind}
use Rattle.cc_top.proofs.Tells.{Outcome}
use Rattle.cc_top.specs.Answer.{OfReport, judged, made, reply_of}
use Rattle.cc_top.specs.Counts.{Caused, Counts}
use Rattle.cc_top.specs.Justified.{justifications}
use Rattle.cc_top.specs.Reads.{IsIncludedIn}
use Rattle.cc_top.specs.Refusal.{FaultNames, IsOfInput, status_of}
use Rattle.cc_top.specs.Refused.{IsRefusal, of_front, of_report}
use Rattle.cc_top.specs.declared.refusal.Refusal.{Refusal}

pub report_told : (what : Report) (name : List ℕ) (project : Project) (P : Program) (tests : List Test) (justified : Option (List Justified)) (text : List ℕ) (is_met judgement : Bool)
    → AreBound P project.tests tests → justified ≡ justifications project → IsReport what P tests justified text is_met → judgement ≡ judged what is_met
    → OfReport what name project (made text judgement)
report_told what name project P tests justified text is_met judgement bound e report is =
    inr (P, tests, bound, inl (text, is_met, subst (λ j. IsReport what P tests j text is_met) e report, ap (made text) is))

pub fault_told : (what : Report) (name : List ℕ) (project : Project) (P : Program) (tests : List Test) (justified : Option (List Justified)) (fault : ReportFault) (r : Refusal)
    → AreBound P project.tests tests → justified ≡ justifications project → IsRefused P tests justified fault → IsOfInput r → IsRefusal (of_report name tests fault) r
    → status_of r < 4 → OfReport what name project (reply_of r)
fault_told what name project P tests justified fault r bound e why input is below =
    inr (P, tests, bound, inr (fault, subst (λ j. IsRefused P tests j fault) e why, refuses (of_report name tests fault) r (input_kind r input) is below))

-- on files that the front end refuses there is none
pub files_refused : (what : Report) (name : List ℕ) (project : Project) (fault : FrontFault) (r : Refusal) → IsRefusal (of_front project fault) r → status_of r < 4
    → OfReport what name project (reply_of r)
files_refused what name project fault r is below = inl (front_told project fault r is below)

-- what is refused of a program that is read is no refusal to read, nor the usage line
pub outcome_caused : (old new : Counts) (r : Outcome) → IfErr r IsOfInput → IfErr r (Caused old new)
outcome_caused old new (Ok output) h = tt
outcome_caused old new (Err refusal) h = input_caused old new refusal h

pub outcome_kind : (r : Outcome) → IfErr r IsOfInput → IfErr r (λ refusal. status_of refusal ≢ 2)
outcome_kind (Ok output) h = tt
outcome_kind (Err refusal) h = input_kind refusal h

pub outcome_named : (o : Option Files) (contents : List (List ℕ)) (r : Outcome) → IfErr r IsOfInput → IfSome o (λ files. IfErr r (FaultNames (IsIncludedIn files contents)))
outcome_named None contents r h = tt
outcome_named (Some files) contents (Ok output) h = tt
outcome_named (Some files) contents (Err refusal) h = input_named (IsIncludedIn files contents) refusal h
