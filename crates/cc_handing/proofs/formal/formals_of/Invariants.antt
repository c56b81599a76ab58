use Rattle.std.proofs.Common.{◌≡◌, ◌++◌, drop}
use Rattle.cc_handing.specs.Sites.{formals, formals_in}
use Rattle.cc_handing.proofs.formal.formals_of.Given as goal

abbrev pub invariant-loop-i : goal.invariant-loop-i
invariant-loop-i l = l.out.items ++ formals_in l.graph l.parts (drop l.i l.functions) l.i ≡ formals l.program l.graph l.parts
