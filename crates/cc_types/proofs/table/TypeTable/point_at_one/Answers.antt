use Rattle.std.proofs.Common.{◌≡◌, rules, ◌∙◌}
use Rattle.cc_types.specs.Asked as asked
use Rattle.cc_types.proofs.AskedTypes.{one_pointee}
use Rattle.cc_types.proofs.table.TypeTable.point_at_one.Goals as goal

pub returns-in-Some-Some-clause-types : goal.returns-in-Some-Some-clause-types
returns-in-Some-Some-clause-types c =
    let shapes : c.eq.result ≡ asked.point_at_one c.args.self.now c.args.s c.args.t = search rules in
    λ hs ht. shapes ∙ one_pointee c.args.self.now c.stands.ensures c.args.s c.args.t hs ht
