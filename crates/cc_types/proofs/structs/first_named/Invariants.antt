use Rattle.std.proofs.Common.{◌≡◌, drop}
use Rattle.cc_types.specs.Structs.{member_from}
use Rattle.cc_types.proofs.structs.first_named.Given as goal

abbrev pub invariant-loop-place : goal.invariant-loop-place
invariant-loop-place l = member_from l.place (drop l.place l.members) l.name ≡ member_from 0 l.members l.name
