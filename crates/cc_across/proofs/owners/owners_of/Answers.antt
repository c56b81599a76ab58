use Rattle.std.proofs.Common.{[], ap, subst, ◌∙◌}
use Rattle.cc_across.specs.Sites.{owners_from, AreBodies}
use Rattle.cc_across.proofs.owners.owners_of.Goals as goal

pub returns : goal.returns
returns c = record {
  owners = c.in_ok-owners.ensures ∙ ap (λ xs. owners_from xs 0 []) c.as_slice.ensures;
  bodies = subst (λ n. AreBodies n c.args.graph.now c.in_ok-bodies.bodies.items) c.in_ok-nodes.ensures c.in_ok-bodies.ensures;
}
