use Rattle.std.proofs.Common.{◌≡◌, drop}
use Rattle.cc_handing.specs.Owning.{with_functions}
use Rattle.cc_handing.proofs.owning.put_functions.Given as goal

abbrev pub invariant-loop-i : goal.invariant-loop-i
invariant-loop-i l = with_functions l.graph (drop l.i l.functions) l.i l.rows.items ≡ with_functions l.graph l.functions 0 l.initial.rows.items
