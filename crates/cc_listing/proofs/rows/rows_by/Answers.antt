use Rattle.std.proofs.Common.{sym, subst}
use Rattle.cc_flows.specs.Sweeping.{StaysWithin}
use Rattle.cc_listed.specs.declared.calls.Calls.{Calls}
use Rattle.cc_listing.proofs.Joining.{rows_by, more_by}
use Rattle.cc_listing.proofs.rows.rows_by.Goals as goal

pub listed_rows-requires-clause-next : goal.listed_rows-requires-clause-next
listed_rows-requires-clause-next c = subst StaysWithin (sym c.as_slice.ensures.value) c.requires.callings.stays

pub listed_rows-requires-clause-within : goal.listed_rows-requires-clause-within
listed_rows-requires-clause-within c = subst StaysWithin (sym c.as_slice-3.ensures) c.requires.within

pub listed_rows-requires-clause-formals : goal.listed_rows-requires-clause-formals
listed_rows-requires-clause-formals c = rw (c.as_slice-10.ensures.value, c.as_slice.ensures.value) (c.requires.formals)

pub returns-clause-listed : goal.returns-clause-listed
returns-clause-listed c =
    let listed = rw (c.as_slice.ensures.value, c.as_slice-3.ensures, c.as_slice-4.ensures.value, c.as_slice-5.ensures.value, c.as_slice-6.ensures.value, c.as_slice-7.ensures.value) at c.listed_rows.ensures.listed in
    let calls : Calls = record { calls = c.as_slice-8.result; arguments = c.as_slice-9.result; formals = c.as_slice-10.result; returns = c.as_slice-11.result; named = c.as_slice-12.result } in
    rows_by c.args.graph.now c.args.callings.now c.args.accesses.now c.args.handings.now c.args.tables.now calls c.listed_rows.result
    c.as_slice-8.ensures.value c.as_slice-10.ensures.value c.as_slice-9.ensures c.as_slice-11.ensures c.as_slice-12.ensures listed c.listed_rows.ensures.ascending

pub returns-clause-many : goal.returns-clause-many
returns-clause-many c = λ is.
    let more = rw (c.as_slice.ensures.value, c.as_slice-3.ensures, c.as_slice-4.ensures.value, c.as_slice-5.ensures.value, c.as_slice-6.ensures.value, c.as_slice-7.ensures.value) at c.listed_rows.ensures.many in
    let calls : Calls = record { calls = c.as_slice-8.result; arguments = c.as_slice-9.result; formals = c.as_slice-10.result; returns = c.as_slice-11.result; named = c.as_slice-12.result } in
    more_by c.args.graph.now c.args.callings.now c.args.accesses.now c.args.handings.now c.args.tables.now calls 200000
    c.as_slice-8.ensures.value c.as_slice-10.ensures.value c.as_slice-9.ensures c.as_slice-11.ensures c.as_slice-12.ensures (more is)
