-- The couplings of a set.
use Rattle.std.specs.Prelude.{List, map}
use Rattle.cc_meaning.specs.declared.coupling.Coupling.{Coupling}
use Rattle.cc_record_tables.specs.declared.couplings.CouplingSet.{CouplingSet}
use Rattle.cc_record_tables.specs.Keys.{coupling_of}

-- the couplings that the set has
abbrev pub seen_in : CouplingSet → List Coupling
seen_in s = map coupling_of s.keys.keys
