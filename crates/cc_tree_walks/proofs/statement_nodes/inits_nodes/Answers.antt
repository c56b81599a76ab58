use Rattle.std.proofs.Common.{refl, map}
use Rattle.cc_tree.specs.Views.{view_init}
use Rattle.cc_tree.specs.Nodes as spec
use Rattle.cc_tree_walks.proofs.Loops.{sum_next, sum_all, fits}
use Rattle.cc_tree_walks.proofs.statement_nodes.inits_nodes.Goals as goal

pub loop-i-preserved : goal.loop-i-preserved
loop-i-preserved g c = record { told = sum_next (λ is. spec.inits_nodes (map view_init is)) (λ i. spec.init_nodes (view_init i)) (λ i is. refl) c.args.is.now c.loop-i.i-index c.loop-i.nodes c.loop-i.invariant.told c.i-item.result _ _ c.loop-i-test.true c.i-item.is c.init_nodes.ensures c.saturating_add-nodes.ensures; fits = fits _ _ c.saturating_add-nodes.ensures }

pub returns : goal.returns
returns g c = sum_all (λ is. spec.inits_nodes (map view_init is)) (λ i. spec.init_nodes (view_init i)) (λ i is. refl) c.args.is.now c.loop-i.i-index c.loop-i.nodes c.loop-i.invariant.told refl c.loop-i-test.false c.loop-i.invariant.fits
