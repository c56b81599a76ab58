use Rattle.std.proofs.Common.{ap, ◌∙◌, ◌∷◌, Some}
use Rattle.cc_scopes.specs.declared.scopes.Step.TheVariants.{Name}
use Rattle.cc_scopes.specs.Trail.{names_of}
use Rattle.cc_scopes.proofs.Trails.{a_name_is_bound, names_of-append}
use Rattle.cc_scopes.proofs.scopes.Scopes.declare.Goals as goal

pub invariant_of-self-in-Ok : goal.invariant_of-self-in-Ok
invariant_of-self-in-Ok c =
    let s = c.self.inside in
    rw (c.in_ok-push.ensures.items, c.look_up-hidden.ensures) (a_name_is_bound s.innermost.entries s.trail.items s.depth c.self.invariant c.bind.new.innermost.entries c.args.name c.args.declaration c.in-Ok.ensures.ok)

pub returns-in-Ok-clause-ok : goal.returns-in-Ok-clause-ok
returns-in-Ok-clause-ok c =
    ap names_of c.in_ok-push.ensures.items
    ∙ names_of-append c.self.inside.trail.items (Name c.args.name c.args.declaration c.look_up-hidden.result)
    ∙ ap (λ names. Some (c.args.name.now, c.args.declaration) ∷ names) c.self.view_is
