use Rattle.std.proofs.Common.{◌≡◌, [], drop}
use Rattle.cc_points.specs.Tables.{defined_from}
use Rattle.cc_points.proofs.keep.defined_in.Given as goal

abbrev pub invariant-loop-callee : goal.invariant-loop-callee
invariant-loop-callee l = defined_from (drop l.callee-index l.functions) l.defined ≡ defined_from l.functions []
