use Rattle.std.proofs.Common.{◌≡◌, ◌++◌, drop}
use Rattle.cc_handing.specs.Passing.{passed_from}
use Rattle.cc_handing.proofs.pass.put_passed.Given as goal

abbrev pub invariant-loop-i : goal.invariant-loop-i
invariant-loop-i l = l.out.items ++ passed_from l.parts l.entry l.formals (drop l.i l.nodes) l.i ≡ l.initial.out.items ++ passed_from l.parts l.entry l.formals l.nodes 0
