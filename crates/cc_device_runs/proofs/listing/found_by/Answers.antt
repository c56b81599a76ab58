use Rattle.std.proofs.Common.{map, ap, ◌∙◌}
use Rattle.cc_device_runs.specs.Asking.{reads_of, writes_of}
use Rattle.cc_device_runs.specs.Roles.{role_of}
use Rattle.cc_device_runs.proofs.Moved.{listed_as, more_as}
use Rattle.cc_device_runs.proofs.listing.found_by.Goals as goal

pub returns-clause-listed : goal.returns-clause-listed
returns-clause-listed c =
    let P = c.args.program.now in
    let G = c.args.graph.now in
    let roles = c.as_slice-3.ensures.value ∙ c.in_ok-roles.ensures ∙ ap (map (role_of c.args.devices.now)) c.as_slice-2.ensures in
    listed_as c.args.next.now c.in_ok-tables.tables _ c.as_slice-4.result.now _ c.as_slice-5.result.now _ c.shared_rows.result
    c.in_ok-tables.ensures
    (c.as_slice-4.ensures.value ∙ c.in_ok-asks.ensures.writes ∙ ap (writes_of P G) roles)
    (c.as_slice-5.ensures.value ∙ c.in_ok-asks.ensures.reads ∙ ap (reads_of P G) roles)
    c.shared_rows.ensures.listed

pub returns-clause-many : goal.returns-clause-many
returns-clause-many c = λ is.
    let P = c.args.program.now in
    let G = c.args.graph.now in
    let roles = c.as_slice-3.ensures.value ∙ c.in_ok-roles.ensures ∙ ap (map (role_of c.args.devices.now)) c.as_slice-2.ensures in
    more_as c.args.next.now c.in_ok-tables.tables _ c.as_slice-4.result.now _ c.as_slice-5.result.now _ 200000
    c.in_ok-tables.ensures
    (c.as_slice-4.ensures.value ∙ c.in_ok-asks.ensures.writes ∙ ap (writes_of P G) roles)
    (c.as_slice-5.ensures.value ∙ c.in_ok-asks.ensures.reads ∙ ap (reads_of P G) roles)
    (c.shared_rows.ensures.many is)
