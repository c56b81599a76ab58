use Rattle.std.proofs.Common.{rules, arith, refl}
use Rattle.cc_tree.specs.Views.{view_item, items_of}
use Rattle.cc_tree.specs.Nodes as spec
use Rattle.cc_tree.proofs.Loops.{item_falls}
use Rattle.cc_tree_walks.proofs.Loops.{sum_next, sum_all, fits, list_falls}
use Rattle.cc_tree.specs.declared.stmt.Block.{size-Block, size_is-Block}
use Rattle.cc_tree_walks.proofs.Seen.{block_is}
use Rattle.cc_tree_walks.proofs.statement_nodes.+statements.Goals as goal

pub block_nodes-items_nodes-requires : goal.block_nodes-items_nodes-requires
block_nodes-items_nodes-requires g t c κs within =
    let b = c.args.b.now in
    (list_falls _ 2 0 1 b.items c.as_slice.result.now (size-Block g.row.N.Denot b) t c.as_slice.ensures (size_is-Block g.row.N.Denot b) c.decreases (omega arith), search rules)

pub block_nodes-returns : goal.block_nodes-returns
block_nodes-returns g t c =
    let is = rw c.as_slice.ensures at c.items_nodes.ensures in
    let sum = c.saturating_add.ensures in
    rw (block_is c.args.b.now) (omega (arith, is, sum))

pub items_nodes-item_nodes-requires : goal.items_nodes-item_nodes-requires
items_nodes-item_nodes-requires g t c κs within = (item_falls _ 2 0 1 c.args.is.now c.loop-i.i-index c.i-item.result t c.loop-i-test.true c.i-item.is c.decreases (omega arith), search rules)

pub items_nodes-loop-i-preserved : goal.items_nodes-loop-i-preserved
items_nodes-loop-i-preserved g t c = record { told = sum_next (λ is. spec.items_nodes (items_of is)) (λ i. spec.item_nodes (view_item i)) (λ i is. refl) c.args.is.now c.loop-i.i-index c.loop-i.nodes c.loop-i.invariant.told c.i-item.result _ _ c.loop-i-test.true c.i-item.is c.item_nodes.ensures c.saturating_add-nodes.ensures; fits = fits _ _ c.saturating_add-nodes.ensures }

pub items_nodes-returns : goal.items_nodes-returns
items_nodes-returns g t c = sum_all (λ is. spec.items_nodes (items_of is)) (λ i. spec.item_nodes (view_item i)) (λ i is. refl) c.args.is.now c.loop-i.i-index c.loop-i.nodes c.loop-i.invariant.told refl c.loop-i-test.false c.loop-i.invariant.fits
