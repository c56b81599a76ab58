use Rattle.std.proofs.Common.{ap, sym, ◌∙◌}
use Rattle.std.specs.Option.{option_copied}
use Rattle.cc_scopes.proofs.Insertions.{joined, joined-lookup}
use Rattle.cc_scopes.proofs.innermost.look_up.Goals as goal

pub returns-in-Some : goal.returns-in-Some
returns-in-Some c = ap (λ o. joined (option_copied o)) (sym c.in-Some.is) ∙ ap joined c.get.ensures.value ∙ joined-lookup c.args.innermost.now.entries c.args.name.now

pub returns-in-None : goal.returns-in-None
returns-in-None c = ap (λ o. joined (option_copied o)) (sym c.in-None.is) ∙ ap joined c.get.ensures.value ∙ joined-lookup c.args.innermost.now.entries c.args.name.now
