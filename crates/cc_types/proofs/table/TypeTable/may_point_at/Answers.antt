use Rattle.std.proofs.Common.{◌≡◌, rules, ◌∙◌}
use Rattle.cc_types.specs.Asked as asked
use Rattle.cc_types.proofs.AskedTypes.{may_point_asked}
use Rattle.cc_types.proofs.table.TypeTable.may_point_at.Goals as goal

pub returns-in-Some-Some-clause-types : goal.returns-in-Some-Some-clause-types
returns-in-Some-Some-clause-types c =
    let shapes : c.is_or_gains_const.result ≡ asked.may_point_at c.args.self.now c.args.s c.args.t = search rules in
    λ hs ht. shapes ∙ may_point_asked c.args.self.now c.stands.ensures c.args.s c.args.t hs ht
