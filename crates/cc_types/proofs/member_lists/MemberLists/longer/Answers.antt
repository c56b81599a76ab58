use Rattle.std.proofs.Common.{ap, ◌∙◌}
use Rattle.cc_types.specs.MemberLists.{text_numbered, with_names}
use Rattle.cc_types.proofs.member_lists.MemberLists.longer.Goals as goal

pub returns : goal.returns
returns c =
    let lists = c.args.self.now in
    let member = c.args.member.now in
    ap (λ q. (record { names = c.number.new.self; links = q.0 }, q.1)) c.in_ok-number.ensures
    ∙ ap (λ p. with_names lists p c.args.before member) c.in_ok-name.ensures
    ∙ ap (λ x. with_names lists (text_numbered lists.names x) c.args.before member) c.as_str.ensures
