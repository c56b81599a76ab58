use Rattle.std.proofs.Common.{rules, arith, ◌+◌, ◌≤◌, length, sym}
use Rattle.cc_store.proofs.Layouts.{fits}
use Rattle.cc_store.proofs.header.cell_of.Goals as goal

pub overflow_add-result : goal.overflow_add-result
overflow_add-result c =
    let le : c.in-Some.header.start + c.in-Some.header.length ≤ length c.args.cells.now = fits c.args.headers.now (length c.args.cells.now) _ c.args.p.instance c.in-Some.header c.requires.1 (sym c.in-Some.ensures) in
    search (rules, le)

pub returns-then-n-header-clause-within : goal.returns-then-n-header-clause-within
returns-then-n-header-clause-within c =
    let le : c.in-Some.header.start + c.in-Some.header.length ≤ length c.args.cells.now = fits c.args.headers.now (length c.args.cells.now) _ c.args.p.instance c.in-Some.header c.requires.1 (sym c.in-Some.ensures) in
    omega arith
