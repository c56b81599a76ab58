-- What a document says, where it breaks no rule.
use Rattle.std.specs.Prelude.{◌+◌, ℕ, List, [], ◌∷◌, ◌++◌, map, Option, Some, None, codes, if◌then◌else◌, nat_abs}
use Rattle.toml.specs.Data.{Data, get}
use Rattle.cc_project.specs.Values.{text_of, text_in, integer_of, items_in, texts_in, items_of}
use Rattle.cc_project.specs.Rules.{is_turns, is_second, justified_in}
use Rattle.cc_project.specs.Order.{name_of, files_of, line_of}
use Rattle.cc_project.specs.declared.project.ProjectFile.{ProjectFile}
use Rattle.cc_project.specs.declared.project.RawCall.{RawCall}
use Rattle.cc_project.specs.declared.project.RawTest.{RawTest}
use Rattle.cc_project.specs.declared.project.RawJustified.{RawJustified}

pub record Project : Type 0 where
  pub format : ℕ
  pub components : List (List ℕ)
  pub files : List ProjectFile
  pub entries : List (List ℕ)
  pub environment : List (List ℕ)
  pub tests : List RawTest
  pub justified : List RawJustified

-- the texts as the files of component i
abbrev pub files_in : ℕ → List (List ℕ) → List ProjectFile
files_in i = map (λ name. record { name = name; component = record { 0 = i } })

-- the files of these components, the first of which is number i
abbrev pub files_from : ℕ → List Data → List ProjectFile
files_from i [] = []
files_from i (component ∷ rest) = files_in i (files_of component) ++ files_from (i + 1) rest

-- an array of an entry's name and its arguments
abbrev pub call_in : List Data → RawCall
call_in [] = record { entry = []; args = [] }
call_in (entry ∷ arguments) = record { entry = text_of entry; args = map integer_of arguments }

abbrev pub call_of : Data → RawCall
call_of call = call_in (items_of call)

-- the number of turns, where it is one
abbrev pub turns_in : Option Data → ℕ
turns_in None = 0
turns_in (Some d) = if is_turns (Some d) then nat_abs (integer_of d) else 0

abbrev pub test_of : Data → RawTest
test_of test = record {
  name = name_of test;
  calls = map call_of (items_in (get (codes "calls") test));
  answers = map integer_of (items_in (get (codes "answers") test));
  turns = turns_in (get (codes "turns") test);
  requirements = texts_in (get (codes "requirements") test);
}

-- 1 or 2, as J1 asks
abbrev pub format_of : Data → ℕ
format_of document = if is_second document then 2 else 1

abbrev pub justified_of : Data → RawJustified
justified_of justified = record { line = line_of justified; reason = text_in (get (codes "reason") justified) }

abbrev pub project_of : Data → Project
project_of document = record {
  format = format_of document;
  components = map name_of (items_in (get (codes "component") document));
  files = files_from 0 (items_in (get (codes "component") document));
  entries = texts_in (get (codes "entries") document);
  environment = texts_in (get (codes "environment") document);
  tests = map test_of (items_in (get (codes "test") document));
  justified = map justified_of (items_in (justified_in document));
}
