use Rattle.std.proofs.Common.{◌≡◌, ◌++◌, drop}
use Rattle.cc_types.specs.Structs.{renewed}
use Rattle.cc_types.proofs.structs.Structs.renewed.Given as goal

abbrev pub invariant-loop-entry : goal.invariant-loop-entry
invariant-loop-entry l = l.structs ++ renewed (drop l.entry-index l.entry-items) ≡ renewed l.self
