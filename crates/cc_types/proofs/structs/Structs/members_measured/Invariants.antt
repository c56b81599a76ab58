use Rattle.std.proofs.Common.{◌≡◌, drop}
use Rattle.cc_types.specs.Shapes.{types_of}
use Rattle.cc_types.specs.Measures.{members_from, empty}
use Rattle.cc_types.proofs.structs.Structs.members_measured.Given as goal

abbrev pub invariant-loop-member : goal.invariant-loop-member
invariant-loop-member l = members_from (types_of l.table) l.self l.room (drop l.member-index l.members) ≡ members_from (types_of l.table) l.self empty l.members
