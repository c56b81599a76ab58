use Rattle.std.proofs.Common.{ap, sym, ◌∙◌}
use Rattle.cc_scopes.specs.Innermost.{binding_in}
use Rattle.cc_scopes.proofs.Insertions.{joined, joined-lookup, binding_in-insert}
use Rattle.cc_scopes.proofs.innermost.bind.Goals as goal

pub returns-in-Err-clause-unbound : goal.returns-in-Err-clause-unbound
returns-in-Err-clause-unbound c = sym (joined-lookup c.args.innermost.now.entries c.args.name.now) ∙ ap joined c.in-Err.ensures.absent

pub returns-in-Ok-clause-ok : goal.returns-in-Ok-clause-ok
returns-in-Ok-clause-ok c = λ x. ap (λ es. binding_in es x) c.in-Ok.ensures.entries ∙ binding_in-insert c.args.innermost.now.entries c.args.name c.args.binding x
