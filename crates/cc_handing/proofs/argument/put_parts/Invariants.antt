use Rattle.std.proofs.Common.{◌≡◌, drop}
use Rattle.cc_handing.specs.Handing.{with_arguments}
use Rattle.cc_handing.proofs.argument.put_parts.Given as goal

abbrev pub invariant-loop-i : goal.invariant-loop-i
invariant-loop-i l = with_arguments l.program l.graph l.parts l.site l.at (drop l.i l.nodes) l.i l.handed ≡ with_arguments l.program l.graph l.parts l.site l.at l.nodes 0 l.initial.handed
