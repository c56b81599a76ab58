use Rattle.std.proofs.Common.{sym, ◌∙◌}
use Rattle.cc_scopes.proofs.Bindings.{is_at_is_here}
use Rattle.cc_scopes.proofs.scopes.Scopes.is_here.Goals as goal

pub returns-in-Some : goal.returns-in-Some
returns-in-Some c = is_at_is_here c.self.invariant c.self.view_is c.args.name.now (sym c.in-Some.is ∙ c.look_up.ensures)

pub returns-in-None : goal.returns-in-None
returns-in-None c = is_at_is_here c.self.invariant c.self.view_is c.args.name.now (sym c.in-None.is ∙ c.look_up.ensures)
