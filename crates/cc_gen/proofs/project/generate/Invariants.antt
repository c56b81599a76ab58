use Rattle.std.proofs.Common.{◌≡◌, []}
use Rattle.cc_io_memory.specs.Shelves.{deck_of}
use Rattle.cc_gen.specs.Generated.{files_to}
use Rattle.cc_gen.proofs.project.generate.Given as goal

abbrev pub invariant-loop-i : goal.invariant-loop-i
invariant-loop-i l = deck_of l.shelf ≡ record { files = files_to l.n l.i; misses = 0; longs = 0; faults = 0; calls = 0; fails = [] }
