use Rattle.std.proofs.Common.{◌≡◌, ap, subst, true, Err, rules}
use Rattle.cc_flows.specs.Sweeping.{StaysWithin}
use Rattle.cc_listing.specs.Callings.{AreCallings}
use Rattle.cc_listing.proofs.Joining.{formals_below, rows_are, rows_are_more}
use Rattle.cc_listing.proofs.Refusing.{stopped}
use Rattle.cc_listing.proofs.rows.rows_of.Goals as goal

pub rows_by-requires-clause-within : goal.rows_by-requires-clause-within
rows_by-requires-clause-within c =
    let is : c.stays.result ≡ true = search rules in
    subst StaysWithin c.as_slice.ensures (c.stays.ensures is)

pub rows_by-requires-clause-formals : goal.rows_by-requires-clause-formals
rows_by-requires-clause-formals c =
    let callings : AreCallings c.args.program.now c.args.graph.now c.args.facts.now c.in-Some.callings = rw c.in-Some.is at c.in_ok-callings.ensures in
    formals_below c.args.program.now c.args.graph.now c.args.facts.now _ _ c.in_ok-handings.handings _ c.in_ok-handings.ensures callings.2.long

pub returns-in-Ok-clause-listed : goal.returns-in-Ok-clause-listed
returns-in-Ok-clause-listed c =
    let callings : AreCallings c.args.program.now c.args.graph.now c.args.facts.now c.in-Some.callings = rw c.in-Some.is at c.in_ok-callings.ensures in
    let uses = rw (c.as_slice-2.ensures.value, c.as_slice-pairs.ensures.value) at c.in_ok-accesses.ensures in
    let hands = rw (c.as_slice-3.ensures.value, c.as_slice-pairs.ensures.value) at c.in_ok-handings.ensures in
    rows_are c.args.program.now c.args.graph.now c.args.facts.now c.in-Some.callings c.in_ok-accesses.accesses c.in_ok-handings.handings c.in_ok-tables.tables c.in-Ok.rows.items
    callings uses hands c.in_ok-tables.ensures c.in-Ok.ensures.listed

pub returns-clause-fault : goal.returns-clause-fault
returns-clause-fault c =
    let callings : AreCallings c.args.program.now c.args.graph.now c.args.facts.now c.in-Some.callings = rw c.in-Some.is at c.in_ok-callings.ensures in
    let uses = rw (c.as_slice-2.ensures.value, c.as_slice-pairs.ensures.value) at c.in_ok-accesses.ensures in
    let hands = rw (c.as_slice-3.ensures.value, c.as_slice-pairs.ensures.value) at c.in_ok-handings.ensures in
    stopped c.args.program.now c.args.graph.now c.args.facts.now c.in-Err.stop c.of_stop.result c.of_stop.ensures (λ many.
    rows_are_more c.args.program.now c.args.graph.now c.args.facts.now c.in-Some.callings c.in_ok-accesses.accesses c.in_ok-handings.handings c.in_ok-tables.tables 200000
    callings uses hands c.in_ok-tables.ensures (c.in-Err.ensures.many (ap Err many)))
