use Rattle.std.proofs.Common.{◌≡◌, drop}
use Rattle.cc_types.specs.Depths.{listed, caught_up}
use Rattle.cc_types.proofs.depths.Depths.catch_up.Given as goal

abbrev pub invariant-loop-shape : goal.invariant-loop-shape
invariant-loop-shape l = listed l.structs l.self (drop l.shape-index l.shape-items) ≡ caught_up l.table l.structs l.initial.self
