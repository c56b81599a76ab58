use Rattle.std.proofs.Common.{◌≡◌, drop}
use Rattle.cc_listing.specs.Sites as spec
use Rattle.cc_listing.proofs.callings.put_callees.Given as goal

abbrev pub invariant-loop-callee : goal.invariant-loop-callee
invariant-loop-callee l = spec.with_callees l.site (drop l.callee-index l.callees) l.pairs.items ≡ spec.with_callees l.site l.callees l.initial.pairs.items
