-- The rows of the table, as the code makes and writes them.
use Rattle.std.specs.Prelude.{◌≡◌, ◌+◌, ◌<◌, ◌++◌, ℕ, List, [], ◌∷◌, false, Option, None, Some, codes, length, slice_get, string_bytes, Vec}
use Rattle.std.specs.declared.alloc.Global.{Global}
use Rattle.std.specs.Fmt.{decimal}
use Rattle.csv.specs.Writing.{default_writer, writer_setup, fields_written, has_written, writer_under, writer_pending}
use Rattle.csv.specs.declared.writer.Writer.{Writer}
use Rattle.cc_base.specs.Spots.{start}
use Rattle.cc_first_runs.specs.Program as tree
use Rattle.cc_first.specs.Listing.{component_of, place_text}
use Rattle.cc_first.specs.Project.{Project}
use Rattle.cc_first.specs.Views.{name_view}
use Rattle.cc_first.specs.declared.listing.Row.{Row}
use Rattle.cc_first.specs.declared.program.Function.{Function}
use Rattle.cc_first.specs.declared.program.Call.{Call}

-- the functions of a call are functions of the program
pub record IsWithin (functions : List Function) (call : Call) : Type 0 where
  pub caller : call.caller < length functions
  pub callee : call.callee < length functions

abbrev pub file_of : Option Function → ℕ
file_of None = 0
file_of (Some function) = function.file.0

abbrev pub head_of : Option Function → tree.Name
head_of None = record { text = []; spot = start }
head_of (Some function) = name_view function.head

-- the fields of the record for a call from one file to a function of another with this head
abbrev pub fields_of : Project → ℕ → (caller : ℕ) (call : tree.Name) (callee : ℕ) (head : tree.Name) → List (List ℕ)
fields_of project number caller call callee head =
    let from = component_of project caller in
    let to = component_of project callee in
    decimal number ∷ codes "call" ∷ from.name ∷ to.name ∷ place_text from.file call.spot ∷ place_text to.file head.spot ∷ head.text ∷ []

abbrev pub fields_of_call : Project → List Function → ℕ → Call → List (List ℕ)
fields_of_call project functions number call =
    let caller = slice_get functions call.caller in
    let callee = slice_get functions call.callee in
    fields_of project number (file_of caller) (name_view call.name) (file_of callee) (head_of callee)

-- the fields of these calls' records, numbered from this number on
abbrev pub fields_from : Project → List Function → ℕ → List Call → List (List (List ℕ))
fields_from project functions number [] = []
fields_from project functions number (call ∷ calls) = fields_of_call project functions number call ∷ fields_from project functions (number + 1) calls

abbrev pub row_fields : Row → List (List ℕ)
row_fields row =
    string_bytes row.number ∷ codes "call" ∷ row.from.now ∷ row.to.now ∷ string_bytes row.definition ∷ string_bytes row.used ∷ row.name.now ∷ []

abbrev pub header_fields : List (List ℕ)
header_fields = codes "row" ∷ codes "kind" ∷ codes "from" ∷ codes "to" ∷ codes "definition" ∷ codes "use" ∷ codes "name" ∷ []

-- a writer with the defaults, between two records
pub record IsFresh (writer : Writer (Vec ℕ Global)) : Type 0 where
  pub setup : writer_setup writer ≡ default_writer
  pub fields : fields_written writer ≡ 0
  pub clean : has_written writer ≡ false

-- what a writer has written
abbrev pub written : Writer (Vec ℕ Global) → List ℕ
written writer = (writer_under writer).items ++ writer_pending writer
