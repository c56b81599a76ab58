-- Steps and accesses, from what functions are given.
use Rattle.std.specs.Prelude.{ℕ}
use Rattle.cc_listed.specs.declared.table.Uses.{Uses}
use Rattle.cc_listed.specs.Stretches.{Steps, Accesses, accesses, steps}
use Rattle.cc_lanes.specs.declared.joined.Roads.{Roads}

abbrev pub steps_of : Roads → ℕ → Steps
steps_of roads root = steps roads.next.now roads.within.now root

abbrev pub accesses_of : Uses → Accesses
accesses_of uses = accesses uses.writes.now uses.given.now uses.passed.now uses.reads.now
