-- How often the readings of a shelf went wrong, and what a step does to these counts.
use Rattle.cc_io.specs.Count.{Rose}
pub use Rattle.cc_prep.specs.Faults.{Counts, counts_of, NoneFalls}
use Rattle.cc_top.specs.Refusal.{IsReadFault, IsMissing, IsTooLong}
use Rattle.cc_top.specs.declared.refusal.Refusal.{Refusal}

-- a refusal to read comes only where its count rose
abbrev pub Caused : (old new : Counts) → Refusal → Type 0
Caused old new refusal =
    (IsReadFault refusal → Rose old.faults new.faults)
    × (IsMissing refusal → Rose old.misses new.misses)
    × (IsTooLong refusal → Rose old.longs new.longs)
