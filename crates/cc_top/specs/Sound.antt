-- What a table covers: every coupling that any run of the program exercises.
use Rattle.std.specs.Prelude.{◌≡◌, ◌+◌, ◌++◌, ℕ, List, length}
use Rattle.cc_io.specs.Shelf.{Files}
use Rattle.cc_first_runs.specs.Exercised.{IsExercised}
use Rattle.cc_first_runs.specs.Laws.{AreCallsOf}
use Rattle.cc_first_runs.specs.Runs.{run}
use Rattle.cc_first_runs.specs.Couplings.{Row}
use Rattle.cc_first_runs.specs.Program.{Program, IsSite}
use Rattle.cc_first_list.specs.First.{IsFirst}
use Rattle.cc_project.specs.Project.{Project as Checked}
use Rattle.cc_project.specs.Outcome.{IsProject as IsChecked}
use Rattle.cc_project.specs.WellMade.{file_names_of}
use Rattle.cc_top.specs.Holds.{AllHold, Holds}
use Rattle.cc_first.specs.Linked.{IsLinked}
use Rattle.cc_first.specs.Listing.{AreLines, IsListing, header, line}
use Rattle.cc_first.specs.Project.{Project, IsProject}
use Rattle.cc_first.specs.Unit.{Part, IsUnit, program_of}
use Rattle.cc_top.specs.Words.{list_words}

-- the project of this name and its files can be had, and they are of the first form
abbrev pub IsOfFirstForm : Files → List ℕ → Type 0
IsOfFirstForm files name =
    (bytes : List ℕ) × (project : Checked) × (contents : List (List ℕ)) × Holds files name bytes × IsChecked bytes project
    × AllHold files (file_names_of project.files) contents × IsFirst bytes (file_names_of project.files) contents

-- a project that the words name, with its files and the program that they make
pub record Listed (words : List (List ℕ)) (files : Files) (text : List ℕ) : Type 0 where
  pub name : List ℕ
  pub bytes : List ℕ
  pub project : Project
  pub first : List ℕ
  pub second : List ℕ
  pub parts : List Part
  pub others : List Part
  pub entry : ℕ
  pub named : words ≡ list_words name
  pub held : Holds files name bytes
  pub is_project : IsProject bytes project
  pub first_held : Holds files project.first.file first
  pub second_held : Holds files project.second.file second
  pub first_unit : IsUnit first parts
  pub second_unit : IsUnit second others
  pub linked : IsLinked (program_of parts others) project.entry entry
  pub listing : IsListing project (program_of parts others) entry text

-- one of the lines of the table is the row's, with its components, its definition, its use and its name: it stands
-- behind the header and the lines of some rows, and its number is one more than these are
pub record HasLine (project : Project) (program : Program) (row : Row) (text : List ℕ) : Type 0 where
  pub site : IsSite program row.f row.i row.g
  pub earlier : List Row
  pub before : List ℕ
  pub are_lines : AreLines project program 1 earlier before
  pub after : List ℕ
  pub stands : text ≡ header ++ (before ++ (line project (1 + length earlier) site.caller site.call site.callee ++ after))

-- each call coupling that any run of the program exercises, whatever calls of the entry and turns, has its line
abbrev pub CoversRuns : Project → Program → (entry : ℕ) → List ℕ → Type 0
CoversRuns project program entry text =
    (calls : List ℕ) → AreCallsOf entry calls → (turns : ℕ) (row : Row)
    → IsExercised program (run program calls turns).events row → HasLine project program row text
