use Rattle.std.proofs.Common.{◌≡◌, drop}
use Rattle.cc_listing.specs.Stepping as spec
use Rattle.cc_listing.proofs.stays.all_below.Given as goal

abbrev pub invariant-loop-row : goal.invariant-loop-row
invariant-loop-row l = spec.all_below l.count (drop l.row-index l.rows) ≡ spec.all_below l.count l.rows
