-- What the reading of a project file answers.
use Rattle.std.specs.Prelude.{◌≡◌, ℕ, List, Option, Some, None}
use Rattle.std.specs.Str.{IsUtf8}
use Rattle.toml.specs.Data.{Members, table}
use Rattle.toml.specs.Parse.{parse_document}
use Rattle.cc_project.specs.Order.{shape_fault}
use Rattle.cc_project.specs.Project.{Project, project_of}
use Rattle.cc_project.specs.declared.fault.ProjectFault.{ProjectFault}
use Rattle.cc_project.specs.declared.fault.ProjectFault.TheVariants.{NotToml, Shape, Memory}

-- the bytes are a text that TOML reads as this table
pub record IsDocument (bytes : List ℕ) (document : Members) : Type 0 where
  pub utf8 : IsUtf8 bytes
  pub parsed : parse_document bytes ≡ Some document

-- the bytes are a document that breaks no rule and says this project
abbrev pub IsProject : List ℕ → Project → Type 0
IsProject bytes project =
    (document : Members) × IsDocument bytes document × (shape_fault (table document) ≡ None) × (project ≡ project_of (table document))

-- the fault is the first of these, if it is one of shape
abbrev pub Reports : Option (List ℕ × ℕ) → ProjectFault → Type 0
Reports first NotToml = ⊥
Reports first (Shape key rule) = first ≡ Some (key, rule)
Reports first Memory = Unit {0}

-- NotToml: the bytes are no document. Shape: they are one, and this is the first rule that fails, with its key text.
-- Memory says nothing.
abbrev pub IsFault : List ℕ → ProjectFault → Type 0
IsFault bytes NotToml = (document : Members) → IsDocument bytes document → ⊥
IsFault bytes (Shape key rule) = (document : Members) × IsDocument bytes document × (shape_fault (table document) ≡ Some (key, rule))
IsFault bytes Memory = Unit {0}
