-- What every project keeps: the limits, and what the rules J1 to J13 and J15 to J17 ask of what is in it.
use Rattle.std.specs.Prelude.{◌≡◌, ◌≢◌, ◌≤◌, ◌<◌, ◌⊎◌, ℕ, List, [], map, length, IsTrue}
use Rattle.std.specs.List.{All, AllPass, AllPairs, Any, Contains}
use Rattle.cc_project.specs.Names.{is_name, is_file_name, is_requirement, is_reason, is_function_name}
use Rattle.cc_project.specs.Project.{Project}
use Rattle.cc_project.specs.declared.project.ProjectFile.{ProjectFile}
use Rattle.cc_project.specs.declared.project.RawTest.{RawTest}
use Rattle.cc_project.specs.declared.project.RawJustified.{RawJustified}

-- no text stands there twice
abbrev pub AllDiffer : List (List ℕ) → Type 0
AllDiffer = AllPairs (λ a b. a ≢ b)

abbrev pub file_names_of : List ProjectFile → List (List ℕ)
file_names_of = map (λ file. file.name)

-- the files stand in the order of their components
abbrev pub AreInOrder : List ProjectFile → Type 0
AreInOrder = AllPairs (λ a b. a.component.0 ≤ b.component.0)

abbrev pub test_names_of : List RawTest → List (List ℕ)
test_names_of = map (λ test. test.name)

abbrev pub lines_of : List RawJustified → List (List ℕ)
lines_of = map (λ justified. justified.line)

abbrev pub reasons_of : List RawJustified → List (List ℕ)
reasons_of = map (λ justified. justified.reason)

-- what J11 to J13 ask of a test alone
pub record IsWellMadeTest (test : RawTest) : Type 0 where
  pub name : IsTrue (is_name test.name)
  pub some_turn : 1 ≤ test.turns
  pub few_turns : test.turns ≤ 10000000
  pub few_calls : length test.calls ≤ 10000
  pub few_arguments : All (λ call. length call.args ≤ 32) test.calls
  pub few_answers : length test.answers ≤ 100000
  pub few_requirements : length test.requirements ≤ 100
  pub requirements : AllPass is_requirement test.requirements

pub record IsWellMade (project : Project) : Type 0 where
  -- J1
  pub format : (project.format ≡ 1) ⊎ (project.format ≡ 2)
  -- J2, J3, J4
  pub some_component : 1 ≤ length project.components
  pub few_components : length project.components ≤ 64
  pub component_names : AllPass is_name project.components
  pub components_differ : AllDiffer project.components
  -- J5, J6: each component has a file, each file is one of a component, they stand in the order of the components, and
  -- there are at most 64 in all
  pub components_have_files : (i : ℕ) → i < length project.components → Any (λ file. file.component.0 ≡ i) project.files
  pub files_have_components : All (λ file. file.component.0 < length project.components) project.files
  pub files_in_order : AreInOrder project.files
  pub few_files : length project.files ≤ 64
  pub file_names : AllPass is_file_name (file_names_of project.files)
  pub files_differ : AllDiffer (file_names_of project.files)
  -- J8
  pub some_entry : 1 ≤ length project.entries
  pub few_entries : length project.entries ≤ 256
  pub entry_names : AllPass is_function_name project.entries
  pub entries_differ : AllDiffer project.entries
  -- J9
  pub few_environment : length project.environment ≤ 256
  pub environment_names : AllPass is_function_name project.environment
  pub environment_differs : AllDiffer project.environment
  pub environment_has_no_entry : All (λ name. ¬ Contains project.entries name) project.environment
  -- J10 to J13
  pub few_tests : length project.tests ≤ 1000
  pub tests : All IsWellMadeTest project.tests
  pub tests_differ : AllDiffer (test_names_of project.tests)
  -- J14 in format 1, and J15 to J17
  pub first_has_none : project.format ≡ 1 → project.justified ≡ []
  pub few_justified : length project.justified ≤ 1000
  pub lines_differ : AllDiffer (lines_of project.justified)
  pub reasons : AllPass is_reason (reasons_of project.justified)
