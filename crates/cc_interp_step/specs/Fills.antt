-- What one filler does.
use Rattle.std.specs.Prelude.{ℕ, ◌+◌, List, slice_get}
use Rattle.cc_store.specs.declared.value.Pointer.{Pointer}
use Rattle.cc_acts.specs.declared.acts.Filler.{Filler}
use Rattle.cc_acts.specs.declared.acts.Filler.TheVariants.{Cells, Operand}
use Rattle.cc_acts.specs.declared.frame.Entry.{Entry}
use Rattle.cc_acts.specs.Runs.{Part, ◌>>◌, give}
use Rattle.cc_acts.specs.Values.{cell_on}
use Rattle.cc_acts.specs.Parts.{fill_same, fill_operand}
use Rattle.cc_interp_step.specs.declared.objects.Cursor.{Cursor}

-- and where the next one goes on
abbrev pub filled_by : ℕ → ℕ → Pointer → List Entry → Cursor → Filler → Part Cursor
filled_by occ act p es c (Cells n v) = fill_same occ act p c.k n v >> give (record { k = c.k + n; i = c.i })
filled_by occ act p es c (Operand to) = fill_operand occ act (cell_on p c.k) to (slice_get es c.i) >> give (record { k = c.k + 1; i = c.i + 1 })
