use Rattle.cc_first.specs.Views.{parts_view, program_view}
use Rattle.cc_first.proofs.ListingNames.{program_heads}
use Rattle.cc_first.proofs.listing.table.Goals as goal

pub program_table-requires-clause-free : goal.program_table-requires-clause-free
program_table-requires-clause-free c =
    let linked = rw c.in-Some.is at c.in_ok-program.ensures.some in
    program_heads (parts_view c.args.first.now) (parts_view c.args.second.now) (program_view c.in-Some.program) linked.0 c.requires.first c.requires.second
