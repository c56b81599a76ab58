use Rattle.cc_types.specs.Shapes.{built, types_of}
use Rattle.cc_types.specs.Measures.{arrays}
use Rattle.cc_types.proofs.structs.+measured.Given as goal

abbrev pub decreases-measured : goal.decreases-measured
decreases-measured l = arrays (built (types_of l.table.now) l.a)
