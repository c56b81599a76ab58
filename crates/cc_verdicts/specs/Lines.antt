-- The lines of the three criteria.
use Rattle.std.specs.Prelude.{ℕ, List, ◌++◌, Bool, true, false, ◌&&◌, codes}
use Rattle.std.specs.Fmt.{decimal}
use Rattle.cc_meaning.specs.declared.score.Verdict.{Verdict}
use Rattle.cc_meaning.specs.declared.score.Verdicts.{Verdicts}
use Rattle.cc_score.specs.Standings.{standing}
use Rattle.cc_score.specs.declared.standings.Standing.{Standing}
use Rattle.cc_score.specs.declared.standings.Standing.TheVariants.{Met, MetWithJustification, NotMet}
use Rattle.cc_verdicts.specs.declared.lines.Criterion.{Criterion}
use Rattle.cc_verdicts.specs.declared.lines.Criterion.TheVariants.{CallCoupling, AllCouplingDefs, AllCouplingUses}

-- the name of a criterion
abbrev pub name_of : Criterion → List ℕ
name_of CallCoupling = codes "call-coupling"
name_of AllCouplingDefs = codes "all-coupling-defs"
name_of AllCouplingUses = codes "all-coupling-uses"

-- whether a criterion is met, in words
abbrev pub standing_text : Standing → List ℕ
standing_text Met = codes "met"
standing_text MetWithJustification = codes "met with justification"
standing_text NotMet = codes "not met"

-- how many are covered, how many are justified where that can be, and how many are listed
abbrev pub counts_text : Verdict → (justifies : Bool) → List ℕ
counts_text v false = decimal v.covered ++ (codes "/" ++ decimal v.listed)
counts_text v true = decimal v.covered ++ (codes "+" ++ (decimal v.justified ++ (codes "/" ++ decimal v.listed)))

-- the line of a criterion
abbrev pub verdict_line : Criterion → Verdict → (justifies : Bool) → List ℕ
verdict_line criterion v justifies =
    name_of criterion ++ (codes " " ++ (standing_text (standing v) ++ (codes " " ++ (counts_text v justifies ++ codes "\n"))))

-- the lines of the three criteria
abbrev pub verdict_lines : Verdicts → (justifies : Bool) → List ℕ
verdict_lines v justifies =
    verdict_line CallCoupling v.calls justifies ++ (verdict_line AllCouplingDefs v.defs justifies ++ verdict_line AllCouplingUses v.uses justifies)

abbrev pub stands : Standing → Bool
stands Met = true
stands MetWithJustification = true
stands NotMet = false

-- the criterion is met, with justifications or without
abbrev pub is_met : Verdict → Bool
is_met v = stands (standing v)

-- each criterion is
abbrev pub are_met : Verdicts → Bool
are_met v = is_met v.calls && (is_met v.defs && is_met v.uses)
