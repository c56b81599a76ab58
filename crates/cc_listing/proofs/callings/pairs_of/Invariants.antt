use Rattle.std.proofs.Common.{◌≡◌, drop}
use Rattle.cc_listing.specs.Sites as spec
use Rattle.cc_listing.proofs.callings.pairs_of.Given as goal

abbrev pub invariant-loop-site : goal.invariant-loop-site
invariant-loop-site l = spec.with_sites l.calls (drop l.site-index l.site-items) l.pairs.items ≡ spec.pairs_of l.calls
