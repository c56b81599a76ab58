use Rattle.std.proofs.Common.{arith}
use Rattle.cc_tree_walks.proofs.statement_nodes.declaration_nodes.Goals as goal

pub returns : goal.returns
returns g c =
    let inits = rw c.as_slice-2.ensures at c.inits_nodes.ensures in
    let specs = rw c.as_slice.ensures at c.specs_nodes.ensures in
    omega (arith, inits, specs, c.saturating_add.ensures, c.saturating_add-2.ensures)
