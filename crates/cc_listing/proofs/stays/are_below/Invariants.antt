use Rattle.std.proofs.Common.{◌≡◌, drop}
use Rattle.cc_listing.specs.Stepping as spec
use Rattle.cc_listing.proofs.stays.are_below.Given as goal

abbrev pub invariant-loop-q : goal.invariant-loop-q
invariant-loop-q l = spec.are_below l.count (drop l.q-index l.row) ≡ spec.are_below l.count l.row
