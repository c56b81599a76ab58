use Rattle.std.proofs.Common.{◌≡◌, take, map, Some}
use Rattle.cc_listing.specs.Couplings as spec
use Rattle.cc_listing.proofs.couplings.couplings_of.Given as goal

abbrev pub invariant-loop-row : goal.invariant-loop-row
invariant-loop-row l = map Some l.couplings ≡ map (spec.coupling_of l.program) (take l.row-index l.rows)
