use Rattle.std.proofs.Common.{◌≡◌, [], drop}
use Rattle.cc_flows.specs.Masks.{points_of}
use Rattle.cc_flows.proofs.mask.points.Given as goal

abbrev pub invariant-loop-definition : goal.invariant-loop-definition
invariant-loop-definition l = points_of (drop l.definition-index l.definitions) l.points.items ≡ points_of l.definitions []
