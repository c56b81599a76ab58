-- Projects of the first form, and what is answered for them.
use Rattle.std.specs.Prelude.{ℕ, ◌≡◌, ◌≤◌, ◌<◌, nat_lt, if◌then◌else◌, List, [], ◌∷◌, Vec}
use Rattle.std.specs.declared.alloc.Global.{Global}
use Rattle.cc_first.specs.Linked.{IsLinked}
use Rattle.cc_first.specs.Listing.{IsListing}
use Rattle.cc_first.specs.Project.{Project, IsProject}
use Rattle.cc_first.specs.Unit.{Part, IsUnit, program_of}
use Rattle.cc_first_list.specs.Points.{points, most_points}
use Rattle.cc_first_list.specs.declared.answer.Answer.{Answer}
use Rattle.cc_first_list.specs.declared.answer.Answer.TheVariants as answer

-- A project file with these bytes and C files with these contents are of the first form; the names are those of the files.
pub record IsFirst (bytes : List ℕ) (names contents : List (List ℕ)) : Type 0 where
  pub project : Project
  pub is_project : IsProject bytes project
  pub are_names : names ≡ project.first.file ∷ project.second.file ∷ []
  pub first : List ℕ
  pub second : List ℕ
  pub are_contents : contents ≡ first ∷ second ∷ []
  pub parts : List Part
  pub others : List Part
  pub first_unit : IsUnit first parts
  pub second_unit : IsUnit second others
  pub entry : ℕ
  pub linked : IsLinked (program_of parts others) project.entry entry

-- the table of a program, or the number of its points where they are too many
abbrev pub AnswersProgram : Project → List Part → List Part → ℕ → Answer → Type 0
AnswersProgram project parts others entry (answer.Table text) =
    (points parts others ≤ most_points) × IsListing project (program_of parts others) entry text.items
AnswersProgram project parts others entry (answer.TooManyPoints count) = (count ≡ points parts others) × (most_points < count)

-- of the table and the number of points what is answered
abbrev pub limited : Vec ℕ Global → ℕ → Answer
limited text count = if nat_lt most_points count then answer.TooManyPoints count else answer.Table text

-- the files have these names
abbrev pub AreNamed : Project → List ℕ → List ℕ → Type 0
AreNamed project first second = (first ≡ project.first.file) × (second ≡ project.second.file)

-- what is answered for a project of the first form
abbrev pub Answers : List ℕ → List (List ℕ) → List (List ℕ) → Answer → Type 0
Answers bytes names contents a = (f : IsFirst bytes names contents) × AnswersProgram f.project f.parts f.others f.entry a

-- the program of two files is linked, and this is answered for it
abbrev pub AnswersUnits : Project → List Part → List Part → Answer → Type 0
AnswersUnits project parts others a = (e : ℕ) × IsLinked (program_of parts others) project.entry e × AnswersProgram project parts others e a

-- two files of these contents are of the first form, and this is answered for them
abbrev pub AnswersFiles : Project → List ℕ → List ℕ → Answer → Type 0
AnswersFiles project first second a =
    (parts others : List Part) × IsUnit first parts × IsUnit second others × AnswersUnits project parts others a

-- two files of these contents are not of the first form
abbrev pub AreNone : Project → List ℕ → List ℕ → Type 0
AreNone project first second =
    (parts others : List Part) (e : ℕ) → IsUnit first parts → IsUnit second others → IsLinked (program_of parts others) project.entry e → ⊥
