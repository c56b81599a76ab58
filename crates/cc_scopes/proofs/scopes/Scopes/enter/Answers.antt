use Rattle.std.proofs.Common.{ap, ◌∙◌, ◌∷◌, None}
use Rattle.cc_scopes.specs.declared.scopes.Step.TheVariants.{Block}
use Rattle.cc_scopes.specs.Trail.{names_of}
use Rattle.cc_scopes.proofs.Trails.{a_block_begins, names_of-append}
use Rattle.cc_scopes.proofs.scopes.Scopes.enter.Goals as goal

pub invariant_of-self-2 : goal.invariant_of-self-2
invariant_of-self-2 c =
    let s = c.self.inside in
    rw c.in_ok-push.ensures.items (a_block_begins s.innermost.entries s.trail.items s.depth c.self.invariant)

pub returns-clause-ok : goal.returns-clause-ok
returns-clause-ok c =
    ap names_of c.in_ok-push.ensures.items
    ∙ names_of-append c.self.inside.trail.items Block
    ∙ ap (λ names. None ∷ names) c.self.view_is
