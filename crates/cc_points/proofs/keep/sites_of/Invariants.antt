use Rattle.std.proofs.Common.{◌≡◌, [], drop}
use Rattle.cc_points.specs.Tables.{sites_from}
use Rattle.cc_points.proofs.keep.sites_of.Given as goal

abbrev pub invariant-loop-seen : goal.invariant-loop-seen
invariant-loop-seen l = sites_from (drop l.seen-index l.nodes) l.sites ≡ sites_from l.nodes []
