use Rattle.std.proofs.Common.{◌≡◌, ◌++◌, drop}
use Rattle.cc_handing.specs.Sites.{formals_from}
use Rattle.cc_handing.proofs.formal.put_formals.Given as goal

abbrev pub invariant-loop-i : goal.invariant-loop-i
invariant-loop-i l = l.out.items ++ formals_from l.parts l.callee l.entry (drop l.i l.formals) l.i ≡ l.initial.out.items ++ formals_from l.parts l.callee l.entry l.formals 0
