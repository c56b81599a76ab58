use Rattle.std.proofs.Common.{◌≡◌, drop}
use Rattle.cc_types.specs.MemberLists.{extended, numbered}
use Rattle.cc_types.proofs.member_lists.MemberLists.number.Given as goal

abbrev pub invariant-loop-member : goal.invariant-loop-member
invariant-loop-member l = extended (l.self, l.number) (drop l.member-index l.members) ≡ numbered l.initial.self l.members
