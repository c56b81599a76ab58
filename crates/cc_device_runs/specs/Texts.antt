-- The table of couplings through devices, and the line below it.
use Rattle.std.specs.Prelude.{ℕ, zero, suc, ◌+◌, Bool, cond, nat_eq, List, [], ◌∷◌, ◌++◌, Option, Some, None, is_some, codes, length, slice_get}
use Rattle.std.specs.Fmt.{decimal}
use Rattle.cc_device.specs.declared.device.Device.{Device}
use Rattle.cc_meaning.specs.declared.test.Test.{Test}
use Rattle.cc_program.specs.declared.program.Program.{Program}
use Rattle.cc_tables.specs.Names.{component_text, place_text}
use Rattle.cc_tables.specs.Records.{record_text}
use Rattle.cc_tables.specs.Tables.{mark_text}
use Rattle.cc_device_runs.specs.declared.row.DeviceRow.{DeviceRow}

abbrev pub name_or : Option Device → List ℕ
name_or (Some device) = device.name
name_or None = []

-- the fields of the first line
abbrev pub header : List (List ℕ)
header = codes "row" ∷ codes "from" ∷ codes "to" ∷ codes "definition" ∷ codes "use" ∷ codes "device" ∷ codes "test" ∷ []

-- what a row says: the components of both calls, their places, the device's name, and the name of the test that marks the row
abbrev pub call_fields : Program → DeviceRow → (device : List ℕ) → (mark : List ℕ) → List (List ℕ)
call_fields P row device mark =
    component_text P row.definition ∷ component_text P row.reader ∷ place_text P row.definition ∷ place_text P row.reader ∷ device ∷ mark ∷ []

-- where no test marks the row, `-` stands for it
abbrev pub row_fields : Program → List Device → List Test → DeviceRow → Option (Option ℕ) → List (List ℕ)
row_fields P devices tests row mark = call_fields P row (name_or (slice_get devices row.device)) (mark_text tests mark)

abbrev pub row_text : Program → List Device → List Test → (number : ℕ) → Option DeviceRow → Option (Option ℕ) → List ℕ
row_text P devices tests number (Some row) mark = record_text (decimal number ∷ row_fields P devices tests row mark)
row_text P devices tests number None mark = []

-- the text of the first `count` rows, numbered from 1
abbrev pub rows_to : Program → List Device → List DeviceRow → (marks : List (Option ℕ)) → List Test → (count : ℕ) → List ℕ
rows_to P devices rows marks tests zero = []
rows_to P devices rows marks tests (suc count) =
    rows_to P devices rows marks tests count ++ row_text P devices tests (count + 1) (slice_get rows count) (slice_get marks count)

-- the table
abbrev pub table_text : Program → List Device → List DeviceRow → (marks : List (Option ℕ)) → List Test → List ℕ
table_text P devices rows marks tests = record_text header ++ rows_to P devices rows marks tests (length rows)

-- how many of these marks name a test, and n more
abbrev pub covered_from : ℕ → List (Option ℕ) → ℕ
covered_from n [] = n
covered_from n (mark ∷ marks) = covered_from (n + cond (is_some mark) 1 0) marks

abbrev pub covered : List (Option ℕ) → ℕ
covered = covered_from 0

-- every row is covered
abbrev pub is_met : (covered listed : ℕ) → Bool
is_met covered listed = nat_eq covered listed

abbrev pub standing_text : Bool → List ℕ
standing_text met = cond met (codes "met") (codes "not met")

-- the line that says whether every row is covered, how many are, and how many there are
abbrev pub uses_line : (covered listed : ℕ) → List ℕ
uses_line covered listed =
    codes "device-uses " ++ (standing_text (is_met covered listed) ++ (codes " " ++ (decimal covered ++ (codes "/" ++ (decimal listed ++ codes "\n")))))

-- what `devices` prints
abbrev pub report_text : Program → List Device → List DeviceRow → (marks : List (Option ℕ)) → List Test → List ℕ
report_text P devices rows marks tests = table_text P devices rows marks tests ++ uses_line (covered marks) (length rows)
