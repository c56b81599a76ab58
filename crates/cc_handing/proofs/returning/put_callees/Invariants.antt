use Rattle.std.proofs.Common.{◌≡◌, drop}
use Rattle.cc_handing.specs.Handing.{with_callees}
use Rattle.cc_handing.proofs.returning.put_callees.Given as goal

abbrev pub invariant-loop-callee : goal.invariant-loop-callee
invariant-loop-callee l = with_callees l.statement l.after l.source (drop l.callee-index l.callees) l.handed ≡ with_callees l.statement l.after l.source l.callees l.initial.handed
