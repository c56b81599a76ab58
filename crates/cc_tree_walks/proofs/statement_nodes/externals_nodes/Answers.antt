use Rattle.std.proofs.Common.{refl, map}
use Rattle.cc_tree.specs.Views.{view_external}
use Rattle.cc_tree.specs.Nodes as spec
use Rattle.cc_tree_walks.proofs.Loops.{sum_all}
use Rattle.cc_tree_walks.proofs.statement_nodes.externals_nodes.Goals as goal

pub returns : goal.returns
returns g c = sum_all (λ xs. spec.file_nodes (map view_external xs)) (λ x. spec.external_nodes (view_external x)) (λ x xs. refl) c.args.xs.now c.loop-x.x-index c.loop-x.nodes c.loop-x.invariant.told refl c.loop-x-test.false c.loop-x.invariant.fits
