use Rattle.std.proofs.Common.{rules, arith, refl}
use Rattle.cc_tree.specs.Views.{view_value, values_of}
use Rattle.cc_tree.specs.Nodes as spec
use Rattle.cc_tree.proofs.Loops.{item_falls}
use Rattle.cc_tree_walks.proofs.Loops.{sum_next, sum_all, fits}
use Rattle.cc_tree_walks.proofs.Seen.{braces_are}
use Rattle.cc_tree_walks.proofs.statement_nodes.+values.Goals as goal

pub value_nodes-returns-in-List : goal.value_nodes-returns-in-List
value_nodes-returns-in-List g t c =
    let is = rw c.as_slice.ensures at c.values_nodes.ensures in
    let sum = c.saturating_add.ensures in
    rw c.in-List.is (rw (braces_are c.in-List.field-0 c.in-List.vs c.in-List.field-2) (omega (arith, is, sum)))

pub values_nodes-loop-v-preserved : goal.values_nodes-loop-v-preserved
values_nodes-loop-v-preserved g t c = record { told = sum_next (λ vs. spec.values_nodes (values_of vs)) (λ v. spec.value_nodes (view_value v)) (λ v vs. refl) c.args.vs.now c.loop-v.v-index c.loop-v.nodes c.loop-v.invariant.told c.v-item.result _ _ c.loop-v-test.true c.v-item.is c.value_nodes.ensures c.saturating_add-nodes.ensures; fits = fits _ _ c.saturating_add-nodes.ensures }

pub values_nodes-returns : goal.values_nodes-returns
values_nodes-returns g t c = sum_all (λ vs. spec.values_nodes (values_of vs)) (λ v. spec.value_nodes (view_value v)) (λ v vs. refl) c.args.vs.now c.loop-v.v-index c.loop-v.nodes c.loop-v.invariant.told refl c.loop-v-test.false c.loop-v.invariant.fits

pub values_nodes-value_nodes-requires : goal.values_nodes-value_nodes-requires
values_nodes-value_nodes-requires g t c κs within = (item_falls _ 2 0 1 c.args.vs.now c.loop-v.v-index c.v-item.result t c.loop-v-test.true c.v-item.is c.decreases (omega arith), search rules)
