-- What is found of a program and its tests: its listing, the reasons of rows, and what the tests exercise.
use Rattle.std.specs.Prelude.{◌≡◌, ℕ, List, Option, Some, None, length}
use Rattle.cc_acts.specs.declared.acts.Acts.{Acts}
use Rattle.cc_graph.specs.Graphs.{IsGraph}
use Rattle.cc_graph.specs.declared.graph.Graph.{Graph}
use Rattle.cc_listing.specs.Answers.{IsListing}
use Rattle.cc_meaning.specs.declared.coupling.Coupling.{Coupling}
use Rattle.cc_meaning.specs.declared.score.Justified.{Justified}
use Rattle.cc_meaning.specs.declared.score.RowReason.{RowReason}
use Rattle.cc_meaning.specs.declared.score.Scores.{Scores}
use Rattle.cc_meaning.specs.declared.test.Test.{Test}
use Rattle.cc_program.specs.declared.program.Program.{Program}
use Rattle.cc_score.specs.Conflicts.{Clashes, IsLeast}
use Rattle.cc_score.specs.declared.clash.Conflict.{Conflict}
use Rattle.cc_scoring.specs.Fit.{IsUnfit}
use Rattle.cc_scoring.specs.Runs.{AnyIsLost}
use Rattle.cc_scoring.specs.Scored.{IsScored}
use Rattle.cc_tables.specs.Justifying as justifying
use Rattle.cc_reports.specs.declared.steps.Listed.{Listed}

-- these are control points of the program, and its listing by them and by its facts
pub record AreListed (P : Program) (it : Listed) : Type 0 where
  pub graph : IsGraph P it.graph
  pub listing : IsListing P it.graph it.listing

-- the rows are the listing of the program, by its control points and its facts
abbrev pub IsListed : Program → List Coupling → Type 0
IsListed P rows = (G : Graph) × IsGraph P G × IsListing P G rows

-- for each row its reason by the justifications, where rows can be justified
abbrev pub reasons_of : Program → List Coupling → Option (List Justified) → Option (List (Option RowReason))
reasons_of P rows (Some list) = Some (justifying.reasons P rows list)
reasons_of P rows None = None

-- the first justification whose line is no row's text
abbrev pub first_unknown : Program → List Coupling → Option (List Justified) → Option ℕ
first_unknown P rows (Some list) = justifying.first_unknown P rows list
first_unknown P rows None = None

-- the program has a listing, and each justification has a row of it
abbrev pub HasRows : Program → Option (List Justified) → Type 0
HasRows P justified = (rows : List Coupling) × IsListed P rows × (first_unknown P rows justified ≡ None)

-- what the runs of the tests over some acts exercise of the rows; that these acts are the program's no definition says yet
abbrev pub AreScores : Program → List Coupling → List Test → Scores → Type 0
AreScores P rows tests scores = (acts : Acts) × IsScored P acts rows tests scores

-- the machine is lost in a test's run over some acts
abbrev pub IsAstray : List Test → Type 0
IsAstray tests = (acts : Acts) × AnyIsLost acts tests

-- the program, or some acts, are not as a recorder needs them
abbrev pub IsUnfitted : Program → Type 0
IsUnfitted P = (acts : Acts) × IsUnfit P acts

-- of the rows that have a reason and a mark it is the one with the least justification, and of these the least
abbrev pub IsConflict : (marks : List (Option ℕ)) → Option (List (Option RowReason)) → Conflict → Type 0
IsConflict marks (Some reasons) conflict = IsLeast marks reasons (length reasons) conflict
IsConflict marks None conflict = ⊥

-- no row has both a reason and a mark
abbrev pub AreApart : (marks : List (Option ℕ)) → Option (List (Option RowReason)) → Type 0
AreApart marks (Some reasons) = (row index test : ℕ) → Clashes marks reasons row index test → ⊥
AreApart marks None = Unit {0}

-- These are the rows of the program, their reasons by the justifications, and what the tests exercise of them. Each justification
-- has a row, and no test exercises a row that is justified.
pub record IsFound (P : Program) (tests : List Test) (justified : Option (List Justified)) (rows : List Coupling) (reasons : Option (List (Option RowReason))) (scores : Scores) : Type 0 where
  pub listed : IsListed P rows
  pub known : first_unknown P rows justified ≡ None
  pub given : reasons ≡ reasons_of P rows justified
  pub scored : AreScores P rows tests scores
  pub apart : AreApart scores.marks reasons
