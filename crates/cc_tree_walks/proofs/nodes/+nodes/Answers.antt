use Rattle.std.proofs.Common.{rules, arith, refl}
use Rattle.cc_tree.specs.Views.{view, view_type, view_spec, view_member, view_constant, view_declarator, exprs_of, types_of, specs_of, members_of, constants_of, declarators_of}
use Rattle.cc_tree.specs.Nodes as spec
use Rattle.cc_tree.proofs.Loops.{item_falls}
use Rattle.cc_tree_walks.proofs.Loops.{sum_next, sum_all, fits}
use Rattle.cc_tree_walks.proofs.nodes.+nodes.Goals as goal

pub exprs_nodes-loop-e-preserved : goal.exprs_nodes-loop-e-preserved
exprs_nodes-loop-e-preserved g t c = record { told = sum_next (λ es. spec.exprs_nodes (exprs_of es)) (λ e. spec.expr_nodes (view e)) (λ e es. refl) c.args.es.now c.loop-e.e-index c.loop-e.nodes c.loop-e.invariant.told c.e-item.result _ _ c.loop-e-test.true c.e-item.is c.expr_nodes.ensures c.saturating_add-nodes.ensures; fits = fits _ _ c.saturating_add-nodes.ensures }

pub exprs_nodes-returns : goal.exprs_nodes-returns
exprs_nodes-returns g t c = sum_all (λ es. spec.exprs_nodes (exprs_of es)) (λ e. spec.expr_nodes (view e)) (λ e es. refl) c.args.es.now c.loop-e.e-index c.loop-e.nodes c.loop-e.invariant.told refl c.loop-e-test.false c.loop-e.invariant.fits

pub types_nodes-loop-t-preserved : goal.types_nodes-loop-t-preserved
types_nodes-loop-t-preserved g t c = record { told = sum_next (λ ts. spec.types_nodes (types_of ts)) (λ t. spec.type_nodes (view_type t)) (λ t ts. refl) c.args.ts.now c.loop-t.t-index c.loop-t.nodes c.loop-t.invariant.told c.t-item.result _ _ c.loop-t-test.true c.t-item.is c.type_nodes.ensures c.saturating_add-nodes.ensures; fits = fits _ _ c.saturating_add-nodes.ensures }

pub types_nodes-returns : goal.types_nodes-returns
types_nodes-returns g t c = sum_all (λ ts. spec.types_nodes (types_of ts)) (λ t. spec.type_nodes (view_type t)) (λ t ts. refl) c.args.ts.now c.loop-t.t-index c.loop-t.nodes c.loop-t.invariant.told refl c.loop-t-test.false c.loop-t.invariant.fits

pub specs_nodes-returns : goal.specs_nodes-returns
specs_nodes-returns g t c = sum_all (λ ss. spec.specs_nodes (specs_of ss)) (λ s. spec.spec_nodes (view_spec s)) (λ s ss. refl) c.args.ss.now c.loop-s.s-index c.loop-s.nodes c.loop-s.invariant.told refl c.loop-s-test.false c.loop-s.invariant.fits

pub members_nodes-returns : goal.members_nodes-returns
members_nodes-returns g t c = sum_all (λ ms. spec.members_nodes (members_of ms)) (λ m. spec.member_nodes (view_member m)) (λ m ms. refl) c.args.ms.now c.loop-m.m-index c.loop-m.nodes c.loop-m.invariant.told refl c.loop-m-test.false c.loop-m.invariant.fits

pub constants_nodes-returns : goal.constants_nodes-returns
constants_nodes-returns g t c = sum_all (λ cs. spec.constants_nodes (constants_of cs)) (λ c. spec.constant_nodes (view_constant c)) (λ c cs. refl) c.args.cs.now c.loop-c.c-index c.loop-c.nodes c.loop-c.invariant.told refl c.loop-c-test.false c.loop-c.invariant.fits

pub declarators_nodes-returns : goal.declarators_nodes-returns
declarators_nodes-returns g t c = sum_all (λ ds. spec.declarators_nodes (declarators_of ds)) (λ d. spec.declarator_nodes (view_declarator d)) (λ d ds. refl) c.args.ds.now c.loop-d.d-index c.loop-d.nodes c.loop-d.invariant.told refl c.loop-d-test.false c.loop-d.invariant.fits

pub exprs_nodes-expr_nodes-requires : goal.exprs_nodes-expr_nodes-requires
exprs_nodes-expr_nodes-requires g t c κs within = (item_falls _ 2 0 1 c.args.es.now c.loop-e.e-index c.e-item.result t c.loop-e-test.true c.e-item.is c.decreases (omega arith), search rules)

pub types_nodes-type_nodes-requires : goal.types_nodes-type_nodes-requires
types_nodes-type_nodes-requires g t c κs within = (item_falls _ 2 0 1 c.args.ts.now c.loop-t.t-index c.t-item.result t c.loop-t-test.true c.t-item.is c.decreases (omega arith), search rules)

pub specs_nodes-spec_nodes-requires : goal.specs_nodes-spec_nodes-requires
specs_nodes-spec_nodes-requires g t c κs within = (item_falls _ 2 0 1 c.args.ss.now c.loop-s.s-index c.s-item.result t c.loop-s-test.true c.s-item.is c.decreases (omega arith), search rules)

pub members_nodes-member_nodes-requires : goal.members_nodes-member_nodes-requires
members_nodes-member_nodes-requires g t c κs within = (item_falls _ 2 0 1 c.args.ms.now c.loop-m.m-index c.m-item.result t c.loop-m-test.true c.m-item.is c.decreases (omega arith), search rules)

pub constants_nodes-constant_nodes-requires : goal.constants_nodes-constant_nodes-requires
constants_nodes-constant_nodes-requires g t c κs within = (item_falls _ 2 0 1 c.args.cs.now c.loop-c.c-index c.c-item.result t c.loop-c-test.true c.c-item.is c.decreases (omega arith), search rules)

pub declarators_nodes-declarator_nodes-requires : goal.declarators_nodes-declarator_nodes-requires
declarators_nodes-declarator_nodes-requires g t c κs within = (item_falls _ 2 0 1 c.args.ds.now c.loop-d.d-index c.d-item.result t c.loop-d-test.true c.d-item.is c.decreases (omega arith), search rules)
