-- Each loop over parts: a part is nearer to the end, and has room for its numbers.
use Rattle.std.proofs.Common.{arith}
use Rattle.cc_tree.proofs.Loops.{item_falls, rest_at}
use Rattle.cc_tree_notes.proofs.expr.+number.Goals as goal

pub number_exprs-number_expr-requires : goal.number_exprs-number_expr-requires
number_exprs-number_expr-requires t c =
    let rest = rw (rest_at c.args.es.now c.loop-e.e-index c.e-item.result c.loop-e-test.true c.e-item.is) at c.loop-e.invariant.room in
    (item_falls _ 3 0 1 c.args.es.now c.loop-e.e-index c.e-item.result t c.loop-e-test.true c.e-item.is c.decreases (omega arith), omega (arith, rest, c.requires))

pub number_types-number_type-requires : goal.number_types-number_type-requires
number_types-number_type-requires t c =
    let rest = rw (rest_at c.args.ts.now c.loop-t.t-index c.t-item.result c.loop-t-test.true c.t-item.is) at c.loop-t.invariant.room in
    (item_falls _ 3 0 1 c.args.ts.now c.loop-t.t-index c.t-item.result t c.loop-t-test.true c.t-item.is c.decreases (omega arith), omega (arith, rest, c.requires))

pub number_specs-number_spec-requires : goal.number_specs-number_spec-requires
number_specs-number_spec-requires t c =
    let rest = rw (rest_at c.args.ss.now c.loop-s.s-index c.s-item.result c.loop-s-test.true c.s-item.is) at c.loop-s.invariant.room in
    (item_falls _ 3 0 1 c.args.ss.now c.loop-s.s-index c.s-item.result t c.loop-s-test.true c.s-item.is c.decreases (omega arith), omega (arith, rest, c.requires))

pub number_members-number_member-requires : goal.number_members-number_member-requires
number_members-number_member-requires t c =
    let rest = rw (rest_at c.args.ms.now c.loop-m.m-index c.m-item.result c.loop-m-test.true c.m-item.is) at c.loop-m.invariant.room in
    (item_falls _ 3 0 1 c.args.ms.now c.loop-m.m-index c.m-item.result t c.loop-m-test.true c.m-item.is c.decreases (omega arith), omega (arith, rest, c.requires))

pub number_constants-number_constant-requires : goal.number_constants-number_constant-requires
number_constants-number_constant-requires t c =
    let rest = rw (rest_at c.args.cs.now c.loop-c.c-index c.c-item.result c.loop-c-test.true c.c-item.is) at c.loop-c.invariant.room in
    (item_falls _ 3 0 1 c.args.cs.now c.loop-c.c-index c.c-item.result t c.loop-c-test.true c.c-item.is c.decreases (omega arith), omega (arith, rest, c.requires))

pub number_declarators-number_declarator-requires : goal.number_declarators-number_declarator-requires
number_declarators-number_declarator-requires t c =
    let rest = rw (rest_at c.args.ds.now c.loop-d.d-index c.d-item.result c.loop-d-test.true c.d-item.is) at c.loop-d.invariant.room in
    (item_falls _ 3 0 1 c.args.ds.now c.loop-d.d-index c.d-item.result t c.loop-d-test.true c.d-item.is c.decreases (omega arith), omega (arith, rest, c.requires))
