use Rattle.std.proofs.Common.{rules, ◌≡◌, ◌≤◌, ◌↔◌, ◌∷◌, ◌+◌, ◌∙◌, sym, max, drop, arith}
use Rattle.cc_tree.specs.Views.{view, view_type, view_spec, view_member, view_constant, view_declarator, exprs_of, types_of, specs_of, members_of, constants_of, declarators_of}
use Rattle.cc_tree.specs.Depth as spec
use Rattle.cc_tree.specs.declared.expr.Expr.{the_lemmas}
use Rattle.cc_tree.proofs.Loops.{rest_at, item_falls}
use Rattle.cc_tree_limits.proofs.fits.+fits.Goals as goal

pub exprs_fit-returns-then-not-expr_fits : goal.exprs_fit-returns-then-not-expr_fits
exprs_fit-returns-then-not-expr_fits g t c =
    let e : drop c.loop-e.e-index c.args.es.now ≡ c.e-item.result ∷ drop (c.loop-e.e-index + 1) c.args.es.now = rest_at _ _ _ c.loop-e-test.true c.e-item.is in
    let i : (max (spec.expr_depth (view c.e-item.result)) (spec.exprs_depth (exprs_of (drop (c.loop-e.e-index + 1) c.args.es.now))) ≤ c.args.most) ↔ (spec.exprs_depth (exprs_of c.args.es.now) ≤ c.args.most) = rw e at c.loop-e.invariant in
    (λ h. absurd cc, λ h. sym c.if-not-expr_fits.true ∙ c.expr_fits.ensures.1 (omega (arith, i.1 h)))

pub exprs_fit-loop-e-preserved : goal.exprs_fit-loop-e-preserved
exprs_fit-loop-e-preserved g t c =
    let e : drop c.loop-e.e-index c.args.es.now ≡ c.e-item.result ∷ drop (c.loop-e.e-index + 1) c.args.es.now = rest_at _ _ _ c.loop-e-test.true c.e-item.is in
    let i : (max (spec.expr_depth (view c.e-item.result)) (spec.exprs_depth (exprs_of (drop (c.loop-e.e-index + 1) c.args.es.now))) ≤ c.args.most) ↔ (spec.exprs_depth (exprs_of c.args.es.now) ≤ c.args.most) = rw e at c.loop-e.invariant in
    let fits : spec.expr_depth (view c.e-item.result) ≤ c.args.most = c.expr_fits.ensures.0 c.if-not-expr_fits.false in
    (λ h. i.0 (omega (arith, fits, h)), λ h. omega (arith, i.1 h))

pub types_fit-returns-then-not-type_fits : goal.types_fit-returns-then-not-type_fits
types_fit-returns-then-not-type_fits g t c =
    let e : drop c.loop-t.t-index c.args.ts.now ≡ c.t-item.result ∷ drop (c.loop-t.t-index + 1) c.args.ts.now = rest_at _ _ _ c.loop-t-test.true c.t-item.is in
    let i : (max (spec.type_depth (view_type c.t-item.result)) (spec.types_depth (types_of (drop (c.loop-t.t-index + 1) c.args.ts.now))) ≤ c.args.most) ↔ (spec.types_depth (types_of c.args.ts.now) ≤ c.args.most) = rw e at c.loop-t.invariant in
    (λ h. absurd cc, λ h. sym c.if-not-type_fits.true ∙ c.type_fits.ensures.1 (omega (arith, i.1 h)))

pub types_fit-loop-t-preserved : goal.types_fit-loop-t-preserved
types_fit-loop-t-preserved g t c =
    let e : drop c.loop-t.t-index c.args.ts.now ≡ c.t-item.result ∷ drop (c.loop-t.t-index + 1) c.args.ts.now = rest_at _ _ _ c.loop-t-test.true c.t-item.is in
    let i : (max (spec.type_depth (view_type c.t-item.result)) (spec.types_depth (types_of (drop (c.loop-t.t-index + 1) c.args.ts.now))) ≤ c.args.most) ↔ (spec.types_depth (types_of c.args.ts.now) ≤ c.args.most) = rw e at c.loop-t.invariant in
    let fits : spec.type_depth (view_type c.t-item.result) ≤ c.args.most = c.type_fits.ensures.0 c.if-not-type_fits.false in
    (λ h. i.0 (omega (arith, fits, h)), λ h. omega (arith, i.1 h))

pub specs_fit-returns-then-not-spec_fits : goal.specs_fit-returns-then-not-spec_fits
specs_fit-returns-then-not-spec_fits g t c =
    let e : drop c.loop-s.s-index c.args.ss.now ≡ c.s-item.result ∷ drop (c.loop-s.s-index + 1) c.args.ss.now = rest_at _ _ _ c.loop-s-test.true c.s-item.is in
    let i : (max (spec.spec_depth (view_spec c.s-item.result)) (spec.specs_depth (specs_of (drop (c.loop-s.s-index + 1) c.args.ss.now))) ≤ c.args.most) ↔ (spec.specs_depth (specs_of c.args.ss.now) ≤ c.args.most) = rw e at c.loop-s.invariant in
    (λ h. absurd cc, λ h. sym c.if-not-spec_fits.true ∙ c.spec_fits.ensures.1 (omega (arith, i.1 h)))

pub specs_fit-loop-s-preserved : goal.specs_fit-loop-s-preserved
specs_fit-loop-s-preserved g t c =
    let e : drop c.loop-s.s-index c.args.ss.now ≡ c.s-item.result ∷ drop (c.loop-s.s-index + 1) c.args.ss.now = rest_at _ _ _ c.loop-s-test.true c.s-item.is in
    let i : (max (spec.spec_depth (view_spec c.s-item.result)) (spec.specs_depth (specs_of (drop (c.loop-s.s-index + 1) c.args.ss.now))) ≤ c.args.most) ↔ (spec.specs_depth (specs_of c.args.ss.now) ≤ c.args.most) = rw e at c.loop-s.invariant in
    let fits : spec.spec_depth (view_spec c.s-item.result) ≤ c.args.most = c.spec_fits.ensures.0 c.if-not-spec_fits.false in
    (λ h. i.0 (omega (arith, fits, h)), λ h. omega (arith, i.1 h))

pub members_fit-returns-then-not-member_fits : goal.members_fit-returns-then-not-member_fits
members_fit-returns-then-not-member_fits g t c =
    let e : drop c.loop-m.m-index c.args.ms.now ≡ c.m-item.result ∷ drop (c.loop-m.m-index + 1) c.args.ms.now = rest_at _ _ _ c.loop-m-test.true c.m-item.is in
    let i : (max ((spec.member_depth (view_member c.m-item.result) + 1)) (spec.members_depth (members_of (drop (c.loop-m.m-index + 1) c.args.ms.now))) ≤ c.args.most) ↔ (spec.members_depth (members_of c.args.ms.now) ≤ c.args.most) = rw e at c.loop-m.invariant in
    (λ h. absurd cc, λ h. sym c.if-not-member_fits.true ∙ c.member_fits.ensures.1 (omega (arith, i.1 h)))

pub members_fit-loop-m-preserved : goal.members_fit-loop-m-preserved
members_fit-loop-m-preserved g t c =
    let e : drop c.loop-m.m-index c.args.ms.now ≡ c.m-item.result ∷ drop (c.loop-m.m-index + 1) c.args.ms.now = rest_at _ _ _ c.loop-m-test.true c.m-item.is in
    let i : (max ((spec.member_depth (view_member c.m-item.result) + 1)) (spec.members_depth (members_of (drop (c.loop-m.m-index + 1) c.args.ms.now))) ≤ c.args.most) ↔ (spec.members_depth (members_of c.args.ms.now) ≤ c.args.most) = rw e at c.loop-m.invariant in
    let fits : (spec.member_depth (view_member c.m-item.result) + 1) ≤ c.args.most = c.member_fits.ensures.0 c.if-not-member_fits.false in
    (λ h. i.0 (omega (arith, fits, h)), λ h. omega (arith, i.1 h))

pub constants_fit-returns-then-not-constant_fits : goal.constants_fit-returns-then-not-constant_fits
constants_fit-returns-then-not-constant_fits g t c =
    let e : drop c.loop-c.c-index c.args.cs.now ≡ c.c-item.result ∷ drop (c.loop-c.c-index + 1) c.args.cs.now = rest_at _ _ _ c.loop-c-test.true c.c-item.is in
    let i : (max ((spec.constant_depth (view_constant c.c-item.result) + 1)) (spec.constants_depth (constants_of (drop (c.loop-c.c-index + 1) c.args.cs.now))) ≤ c.args.most) ↔ (spec.constants_depth (constants_of c.args.cs.now) ≤ c.args.most) = rw e at c.loop-c.invariant in
    (λ h. absurd cc, λ h. sym c.if-not-constant_fits.true ∙ c.constant_fits.ensures.1 (omega (arith, i.1 h)))

pub constants_fit-loop-c-preserved : goal.constants_fit-loop-c-preserved
constants_fit-loop-c-preserved g t c =
    let e : drop c.loop-c.c-index c.args.cs.now ≡ c.c-item.result ∷ drop (c.loop-c.c-index + 1) c.args.cs.now = rest_at _ _ _ c.loop-c-test.true c.c-item.is in
    let i : (max ((spec.constant_depth (view_constant c.c-item.result) + 1)) (spec.constants_depth (constants_of (drop (c.loop-c.c-index + 1) c.args.cs.now))) ≤ c.args.most) ↔ (spec.constants_depth (constants_of c.args.cs.now) ≤ c.args.most) = rw e at c.loop-c.invariant in
    let fits : (spec.constant_depth (view_constant c.c-item.result) + 1) ≤ c.args.most = c.constant_fits.ensures.0 c.if-not-constant_fits.false in
    (λ h. i.0 (omega (arith, fits, h)), λ h. omega (arith, i.1 h))

pub declarators_fit-returns-then-not-declarator_fits : goal.declarators_fit-returns-then-not-declarator_fits
declarators_fit-returns-then-not-declarator_fits g t c =
    let e : drop c.loop-d.d-index c.args.ds.now ≡ c.d-item.result ∷ drop (c.loop-d.d-index + 1) c.args.ds.now = rest_at _ _ _ c.loop-d-test.true c.d-item.is in
    let i : (max (spec.declarator_depth (view_declarator c.d-item.result)) (spec.declarators_depth (declarators_of (drop (c.loop-d.d-index + 1) c.args.ds.now))) ≤ c.args.most) ↔ (spec.declarators_depth (declarators_of c.args.ds.now) ≤ c.args.most) = rw e at c.loop-d.invariant in
    (λ h. absurd cc, λ h. sym c.if-not-declarator_fits.true ∙ c.declarator_fits.ensures.1 (omega (arith, i.1 h)))

pub declarators_fit-loop-d-preserved : goal.declarators_fit-loop-d-preserved
declarators_fit-loop-d-preserved g t c =
    let e : drop c.loop-d.d-index c.args.ds.now ≡ c.d-item.result ∷ drop (c.loop-d.d-index + 1) c.args.ds.now = rest_at _ _ _ c.loop-d-test.true c.d-item.is in
    let i : (max (spec.declarator_depth (view_declarator c.d-item.result)) (spec.declarators_depth (declarators_of (drop (c.loop-d.d-index + 1) c.args.ds.now))) ≤ c.args.most) ↔ (spec.declarators_depth (declarators_of c.args.ds.now) ≤ c.args.most) = rw e at c.loop-d.invariant in
    let fits : spec.declarator_depth (view_declarator c.d-item.result) ≤ c.args.most = c.declarator_fits.ensures.0 c.if-not-declarator_fits.false in
    (λ h. i.0 (omega (arith, fits, h)), λ h. omega (arith, i.1 h))

pub declarator_fits-returns-then-declarator_fits-2 : goal.declarator_fits-returns-then-declarator_fits-2
declarator_fits-returns-then-declarator_fits-2 g t c =
    let k : spec.declarator_depth (view_declarator c.args.d.now) ≡ max (spec.declarator_depth (view_declarator c.get-in-Func.result.now)) (spec.types_depth (types_of c.as_slice.result.now)) + 1 = rw (c.in-Func.is) (search (rules, the_lemmas)) in
    let first : spec.declarator_depth (view_declarator c.get-in-Func.result.now) ≤ c.in-Some.inside = c.declarator_fits-in-Func.ensures.0 c.if-declarator_fits-2.true in
    let less = c.in-Some.ensures in
    (λ h. omega (arith, k, first, c.types_fit.ensures.0 h, less.0, less.1), λ h. c.types_fit.ensures.1 (omega (arith, k, h, less.0, less.1)))

pub expr_fits-returns-then-expr_fits-6 : goal.expr_fits-returns-then-expr_fits-6
expr_fits-returns-then-expr_fits-6 g t c =
    let k : spec.expr_depth (view c.args.e.now) ≡ max (spec.expr_depth (view c.get-in-Call.result.now)) (spec.exprs_depth (exprs_of c.as_slice.result.now)) + 1 = rw (c.in-Call.is) (search (rules, the_lemmas)) in
    let first : spec.expr_depth (view c.get-in-Call.result.now) ≤ c.in-Some.inside = c.expr_fits-in-Call.ensures.0 c.if-expr_fits-6.true in
    let less = c.in-Some.ensures in
    (λ h. omega (arith, k, first, c.exprs_fit.ensures.0 h, less.0, less.1), λ h. c.exprs_fit.ensures.1 (omega (arith, k, h, less.0, less.1)))

pub exprs_fit-expr_fits-requires : goal.exprs_fit-expr_fits-requires
exprs_fit-expr_fits-requires g t c κs within = (item_falls _ 2 0 1 c.args.es.now c.loop-e.e-index c.e-item.result t c.loop-e-test.true c.e-item.is c.decreases (omega arith), search rules)

pub types_fit-type_fits-requires : goal.types_fit-type_fits-requires
types_fit-type_fits-requires g t c κs within = (item_falls _ 2 0 1 c.args.ts.now c.loop-t.t-index c.t-item.result t c.loop-t-test.true c.t-item.is c.decreases (omega arith), search rules)

pub specs_fit-spec_fits-requires : goal.specs_fit-spec_fits-requires
specs_fit-spec_fits-requires g t c κs within = (item_falls _ 2 0 1 c.args.ss.now c.loop-s.s-index c.s-item.result t c.loop-s-test.true c.s-item.is c.decreases (omega arith), search rules)

pub members_fit-member_fits-requires : goal.members_fit-member_fits-requires
members_fit-member_fits-requires g t c κs within = (item_falls _ 2 0 1 c.args.ms.now c.loop-m.m-index c.m-item.result t c.loop-m-test.true c.m-item.is c.decreases (omega arith), search rules)

pub constants_fit-constant_fits-requires : goal.constants_fit-constant_fits-requires
constants_fit-constant_fits-requires g t c κs within = (item_falls _ 2 0 1 c.args.cs.now c.loop-c.c-index c.c-item.result t c.loop-c-test.true c.c-item.is c.decreases (omega arith), search rules)

pub declarators_fit-declarator_fits-requires : goal.declarators_fit-declarator_fits-requires
declarators_fit-declarator_fits-requires g t c κs within = (item_falls _ 2 0 1 c.args.ds.now c.loop-d.d-index c.d-item.result t c.loop-d-test.true c.d-item.is c.decreases (omega arith), search rules)
