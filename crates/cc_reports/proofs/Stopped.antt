-- What a fault of the scores is as a fault of the report.
use Rattle.std.specs.Result.{IsErrAnd}
use Rattle.std.proofs.Common.{◌≡◌, IfErr, List, Option, None, Result, Ok, Err, refl, subst, sym}
use Rattle.cc_meaning.specs.declared.coupling.Coupling.{Coupling}
use Rattle.cc_meaning.specs.declared.score.Justified.{Justified}
use Rattle.cc_meaning.specs.declared.test.Test.{Test}
use Rattle.cc_program.specs.declared.program.Program.{Program}
use Rattle.cc_scoring.specs.declared.fault.ScoreFault.{ScoreFault}
use Rattle.cc_scoring.specs.declared.fault.ScoreFault.TheVariants as score
use Rattle.cc_reports.specs.Faults.{of_score}
use Rattle.cc_reports.specs.Found.{IsAstray, IsListed, IsUnfitted, first_unknown}
use Rattle.cc_reports.specs.Reports.{IsRefused}
use Rattle.cc_reports.specs.declared.fault.ReportFault.{ReportFault}

pub stopped : (P : Program) (tests : List Test) (justified : Option (List Justified)) (rows : List Coupling) → IsListed P rows → first_unknown P rows justified ≡ None
    → (fault : ScoreFault) → (fault ≡ score.Lost → IsAstray tests) → (fault ≡ score.Unfit → IsUnfitted P) → IsRefused P tests justified (of_score fault)
stopped P tests justified rows listed known score.Lost lost unfit = ((rows, listed, known), lost refl)
stopped P tests justified rows listed known score.Unfit lost unfit = ((rows, listed, known), unfit refl)
stopped P tests justified rows listed known score.Memory lost unfit = tt

-- so a result with this fault is refused
pub refused_with : {A : Type 0} (P : Program) (tests : List Test) (justified : Option (List Justified)) (fault : ReportFault) (r : Result A ReportFault) → IsErrAnd r (λ f. f ≡ fault)
    → IsRefused P tests justified fault → IfErr r (IsRefused P tests justified)
refused_with P tests justified fault (Ok found) is refused = tt
refused_with P tests justified fault (Err f) is refused = subst (IsRefused P tests justified) (sym is) refused
