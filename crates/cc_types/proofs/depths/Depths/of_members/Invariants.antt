use Rattle.std.proofs.Common.{◌≡◌, drop}
use Rattle.cc_types.specs.Depths.{depth_from, flat}
use Rattle.cc_types.proofs.depths.Depths.of_members.Given as goal

abbrev pub invariant-loop-member : goal.invariant-loop-member
invariant-loop-member l = depth_from l.table l.structs l.self l.depth (drop l.member-index l.members) ≡ depth_from l.table l.structs l.self (flat 0) l.members
