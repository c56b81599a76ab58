-- The first form of a project file.
use Rattle.std.specs.Prelude.{◌≡◌, ◌≢◌, ℕ, List, codes, pos, true, false, Some}
use Rattle.std.specs.Str.{IsUtf8}
use Rattle.toml.specs.Data.{Data, Members, string, integer, array, table, item, no_items, member, no_members}
use Rattle.toml.specs.Parse.{parse_document}
use Rattle.cc_first.specs.Names.{is_identifier, is_name, is_file_name}
use Rattle.cc_lex.specs.Meanings.{is_keyword}

-- a component of one file
pub record Component : Type 0 where
  pub name : List ℕ
  pub file : List ℕ

-- what a project file of the first form says
pub record Project : Type 0 where
  pub entry : List ℕ
  pub first : Component
  pub second : Component

-- an array of one string
abbrev pub one_text : List ℕ → Data
one_text text = array (item (string text) no_items)

-- a table of exactly `files` and `name`; a document's keys are kept in their order by bytes
abbrev pub component_table : Component → Data
component_table component = table (member (codes "files") (one_text component.file) (member (codes "name") (string component.name) no_members))

-- a document of exactly `component`, an array of two tables, `entries` and `format`, the integer 1
abbrev pub project_members : Project → Members
project_members project =
    member (codes "component") (array (item (component_table project.first) (item (component_table project.second) no_items)))
    (member (codes "entries") (one_text project.entry)
    (member (codes "format") (integer (pos 1)) no_members))

pub record IsComponent (component : Component) : Type 0 where
  pub name : is_name component.name ≡ true
  pub file : is_file_name component.file ≡ true

-- the texts of a project are of their kinds
pub record IsWell (project : Project) : Type 0 where
  pub entry : is_identifier project.entry ≡ true
  pub entry_is_free : is_keyword project.entry ≡ false
  pub first : IsComponent project.first
  pub second : IsComponent project.second
  pub names : project.first.name ≢ project.second.name
  pub files : project.first.file ≢ project.second.file

-- the bytes are a document that says this project
pub record IsProject (bytes : List ℕ) (project : Project) : Type 0 where
  pub utf8 : IsUtf8 bytes
  pub document : parse_document bytes ≡ Some (project_members project)
  pub well : IsWell project
