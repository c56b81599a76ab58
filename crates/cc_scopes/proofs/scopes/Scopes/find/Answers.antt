use Rattle.std.proofs.Common.{sym, ◌∙◌}
use Rattle.cc_scopes.proofs.Bindings.{declaration_is_found}
use Rattle.cc_scopes.proofs.scopes.Scopes.find.Goals as goal

pub returns-in-Some : goal.returns-in-Some
returns-in-Some c = declaration_is_found c.self.invariant c.self.view_is c.args.name.now (sym c.in-Some.is ∙ c.look_up.ensures)

pub returns-in-None : goal.returns-in-None
returns-in-None c = declaration_is_found c.self.invariant c.self.view_is c.args.name.now (sym c.in-None.is ∙ c.look_up.ensures)
