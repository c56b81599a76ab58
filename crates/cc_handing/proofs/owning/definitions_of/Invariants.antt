use Rattle.std.proofs.Common.{◌≡◌, drop}
use Rattle.cc_handing.specs.Owning.{definitions, definitions_from}
use Rattle.cc_handing.proofs.owning.definitions_of.Given as goal

abbrev pub invariant-loop-n : goal.invariant-loop-n
invariant-loop-n l = definitions_from (drop l.n l.nodes) l.n l.all ≡ definitions l.program
