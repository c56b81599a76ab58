use Rattle.std.proofs.Common.{◌≡◌, rules, ◌∙◌}
use Rattle.cc_types.specs.Asked as asked
use Rattle.cc_types.proofs.AskedTypes.{alike_asked}
use Rattle.cc_types.proofs.table.TypeTable.point_alike.Goals as goal

pub returns-in-Some-Some-clause-types : goal.returns-in-Some-Some-clause-types
returns-in-Some-Some-clause-types c =
    let shapes : c.eq.result ≡ asked.point_alike c.args.self.now c.args.s c.args.t = search rules in
    λ hs ht. shapes ∙ alike_asked c.args.self.now c.stands.ensures c.args.s c.args.t hs ht
