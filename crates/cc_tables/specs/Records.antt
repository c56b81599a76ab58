-- Texts of records: fields with commas between, and a line feed at the end.
use Rattle.std.specs.Prelude.{◌≡◌, ℕ, List, ◌++◌, false, Vec}
use Rattle.std.specs.declared.alloc.Global.{Global}
use Rattle.csv.specs.Writing.{default_writer, row_text, writer_setup, fields_written, has_written, writer_under, writer_pending}
use Rattle.csv.specs.declared.writer.Writer.{Writer}

-- The text of a record: its fields with commas between, and a line feed. A field with a comma, a quote or an end of line
-- stands in quotes.
abbrev pub record_text : List (List ℕ) → List ℕ
record_text fields = row_text default_writer fields

-- a writer with the defaults, between two records
pub record IsFresh (writer : Writer (Vec ℕ Global)) : Type 0 where
  pub setup : writer_setup writer ≡ default_writer
  pub fields : fields_written writer ≡ 0
  pub clean : has_written writer ≡ false

-- what a writer has written
abbrev pub written : Writer (Vec ℕ Global) → List ℕ
written writer = (writer_under writer).items ++ writer_pending writer
