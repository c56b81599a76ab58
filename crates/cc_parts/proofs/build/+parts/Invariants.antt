use Rattle.std.proofs.Common.{◌≡◌, ◌*◌, ◌+◌, drop}
use Rattle.cc_parts.specs.Putting as put
use Rattle.cc_parts.proofs.build.+parts.Given as goal

abbrev pub invariant-put_members-loop-member : goal.invariant-put_members-loop-member
invariant-put_members-loop-member l =
    put.with_members (put.with_parts l.table l.structs l.object l.depth l.in_array) (drop l.member-index l.members) l.parts
    ≡ put.with_members (put.with_parts l.table l.structs l.object l.depth l.in_array) l.members l.initial.parts

abbrev pub decreases-put_type : goal.decreases-put_type
decreases-put_type l = 4 * l.depth

abbrev pub decreases-put_members : goal.decreases-put_members
decreases-put_members l = 4 * l.depth + 1

abbrev pub decreases-put_struct : goal.decreases-put_struct
decreases-put_struct l = 4 * l.depth + 2

abbrev pub decreases-put_array : goal.decreases-put_array
decreases-put_array l = 4 * l.depth + 2

abbrev pub decreases-put_shape : goal.decreases-put_shape
decreases-put_shape l = 4 * l.depth + 3
