use Rattle.std.proofs.Common.{◌≡◌, ◌++◌, drop}
use Rattle.cc_link_rules.proofs.structs.copied_members.Given as goal

abbrev pub invariant-loop-member : goal.invariant-loop-member
invariant-loop-member l = l.copy ++ drop l.member-index l.members ≡ l.members
