-- Several cells, one after another.
use Rattle.std.specs.Prelude.{ℕ, List}
use Rattle.cc_store.specs.declared.value.Pointer.{Pointer}
use Rattle.cc_acts.specs.declared.frame.Caller.{Caller}
use Rattle.cc_acts.specs.declared.frame.Entry.{Entry}
use Rattle.cc_acts.specs.declared.frame.Frame.{Frame}
use Rattle.cc_acts.specs.Runs.{Part, ◌>>=◌}
use Rattle.cc_acts.specs.Parts.{read_cells}
use Rattle.cc_acts.specs.Steps.{Config, goes}

-- reads n cells from number k on, and goes on
abbrev pub read_on : ℕ → Pointer → ℕ → ℕ → ℕ → Frame → List Entry → List Caller → Part Config
read_on occ p k n next frame ops callers = do
  ops ← read_cells occ frame.act p k n ops
  goes next frame ops callers
