-- Which files are read, and how the reading of one fails.
use Rattle.std.specs.Prelude.{◌≡◌, ◌⊎◌, ◌<◌, ℕ, List, [], ◌∷◌, length, Contains, None, Some}
use Rattle.std.specs.FinMap.{get}
use Rattle.cc_io.specs.Shelf.{Files}
use Rattle.cc_first.specs.Limit.{limit}
use Rattle.cc_project.specs.Project.{Project}
use Rattle.cc_project.specs.Outcome.{IsProject}
use Rattle.cc_project.specs.WellMade.{file_names_of}
use Rattle.cc_prep.specs.Files.{IsIncluded}
use Rattle.cc_top.specs.Holds.{AllHold, Holds}
use Rattle.cc_top.specs.Refusal.{missing_line, long_line}
use Rattle.cc_top.specs.Words.{devices_words, words_of}
use Rattle.cc_top.specs.declared.work.Work.{Work}
use Rattle.cc_top.specs.declared.work.Work.TheVariants as work
use Rattle.cc_top.specs.declared.words.Task.{Task}

-- the name is one of these, and those before it can be had
abbrev pub IsReached : Files → List (List ℕ) → List ℕ → Type 0
IsReached files [] name = ⊥
IsReached files (other ∷ others) name = (name ≡ other) ⊎ ((bytes : List ℕ) × Holds files other bytes × IsReached files others name)

-- what is read for a project of this name: the project itself, and its files up to the first that can't be had
abbrev pub IsReadFor : Files → List ℕ → List ℕ → Type 0
IsReadFor files project_name name =
    (name ≡ project_name)
    ⊎ ((bytes : List ℕ) × (project : Project) × Holds files project_name bytes × IsProject bytes project × IsReached files (file_names_of project.files) name)

-- one of these contents includes the file, or a file that includes it
abbrev pub IsIncludedIn : Files → (contents : List (List ℕ)) → List ℕ → Type 0
IsIncludedIn files contents name = (bytes : List ℕ) × Contains contents bytes × IsIncluded files bytes name

-- all of these files can be had, and one of them includes the file, or a file that includes it
abbrev pub IsIncludedByOne : Files → List (List ℕ) → List ℕ → Type 0
IsIncludedByOne files names name = (contents : List (List ℕ)) × AllHold files names contents × IsIncludedIn files contents name

-- one of these files is reached, or one that they include: whether the reading comes to that, no definition says yet
abbrev pub MayBeReached : Files → List (List ℕ) → List ℕ → Type 0
MayBeReached files names name = IsReached files names name ⊎ IsIncludedByOne files names name

-- what may be read for a project of this name: what is read surely, and files that the project's files include
abbrev pub MayBeReadFor : Files → List ℕ → List ℕ → Type 0
MayBeReadFor files project_name name =
    (name ≡ project_name)
    ⊎ ((bytes : List ℕ) × (project : Project) × Holds files project_name bytes × IsProject bytes project × MayBeReached files (file_names_of project.files) name)

-- the file of devices that is read beside those of a project
abbrev pub IsBeside : Work → List ℕ → Type 0
IsBeside (work.Devices devices) name = name ≡ devices.now
IsBeside _ name = ⊥

-- what may be read for such work: the file of devices, or this
abbrev pub Beside : Work → (List ℕ → Type 0) → List ℕ → Type 0
Beside w P name = IsBeside w name ⊎ P name

-- the names that may be read until the answer is known
abbrev pub MayRead : List (List ℕ) → Files → List ℕ → Type 0
MayRead words files name =
    ((t : Task) × (project_name : List ℕ) × (words ≡ words_of t project_name) × MayBeReadFor files project_name name)
    ⊎ ((project_name devices : List ℕ) × (words ≡ devices_words project_name devices) × ((name ≡ devices) ⊎ MayBeReadFor files project_name name))

-- the file of devices is read once all files of the project of this name can be had
abbrev pub IsReadBehind : Files → (project_name devices name : List ℕ) → Type 0
IsReadBehind files project_name devices name =
    (bytes : List ℕ) × (project : Project) × (contents : List (List ℕ)) × Holds files project_name bytes × IsProject bytes project × AllHold files (file_names_of project.files) contents
    × (name ≡ devices)

-- the names that are read until the answer is known, as far as a definition says so: without the files that are come to
-- by `include` lines
abbrev pub Reads : List (List ℕ) → Files → List ℕ → Type 0
Reads words files name =
    ((t : Task) × (project_name : List ℕ) × (words ≡ words_of t project_name) × IsReadFor files project_name name)
    ⊎ ((project_name devices : List ℕ) × (words ≡ devices_words project_name devices)
    × (IsReadFor files project_name name ⊎ IsReadBehind files project_name devices name))

-- the file is missing or too long, and this is the line that says so
pub data Fails (files : Files) (name : List ℕ) : List ℕ → Type 0 where
  Lacks : get files name ≡ None → Fails files name (missing_line name)
  Passes : {bytes : List ℕ} → get files name ≡ Some bytes → limit < length bytes → Fails files name (long_line name)
