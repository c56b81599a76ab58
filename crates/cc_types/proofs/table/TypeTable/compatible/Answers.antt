use Rattle.std.proofs.Common.{◌≡◌, rules, ◌∙◌, nat_eq}
use Rattle.cc_types.specs.Asked as asked
use Rattle.cc_types.proofs.AskedTypes.{compatible_asked}
use Rattle.cc_types.proofs.table.TypeTable.compatible.Goals as goal

pub returns-then-a-b-clause-types : goal.returns-then-a-b-clause-types
returns-then-a-b-clause-types c =
    let numbers : nat_eq c.args.a.0 c.args.b.0 ≡ asked.compatible c.args.self.now c.args.a c.args.b = search rules in
    λ ha hb. numbers ∙ compatible_asked c.args.self.now c.stands.ensures c.args.a c.args.b ha hb

pub returns-else-a-b-clause-types : goal.returns-else-a-b-clause-types
returns-else-a-b-clause-types c =
    let numbers : c.alike_but_length.result ≡ asked.compatible c.args.self.now c.args.a c.args.b = search rules in
    λ ha hb. numbers ∙ compatible_asked c.args.self.now c.stands.ensures c.args.a c.args.b ha hb
