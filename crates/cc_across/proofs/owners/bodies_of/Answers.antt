use Rattle.std.proofs.Common.{[], ap, ◌∙◌}
use Rattle.cc_across.specs.Sites.{body_pairs}
use Rattle.cc_across.proofs.Owning.{bodies_ok}
use Rattle.cc_across.proofs.owners.bodies_of.Goals as goal

pub returns : goal.returns
returns c = bodies_ok c.args.nodes c.args.graph.now c.in_ok-pairs.pairs.items c.table_of.result
    (c.in_ok-pairs.ensures ∙ ap (λ ds. body_pairs ds 0 []) c.as_slice.ensures) c.table_of.ensures.exact
