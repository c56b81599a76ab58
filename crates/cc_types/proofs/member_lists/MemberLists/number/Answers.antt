use Rattle.std.proofs.Common.{ap, sym, ◌∙◌, ◌+◌, drop}
use Rattle.cc_types.specs.MemberLists.{extended}
use Rattle.cc_types.proofs.ReadLists.{next_of}
use Rattle.cc_types.proofs.member_lists.MemberLists.number.Goals as goal

pub loop-member-preserved : goal.loop-member-preserved
loop-member-preserved c =
    let members = c.args.members.now in
    let i = c.loop-member.member-index in
    ap (λ p. extended p (drop (i + 1) members)) c.in_ok-number.ensures
    ∙ ap (extended (c.loop-member.self, c.loop-member.number)) (sym (next_of members i c.member-item.result c.loop-member-test.true c.member-item.is))
    ∙ c.loop-member.invariant
