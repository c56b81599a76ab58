use Rattle.std.proofs.Common.{refl, ◌∙◌}
use Rattle.cc_listing_calls.specs.Views.{accesses_of}
use Rattle.cc_listing_calls.specs.declared.rows.Passing.{Passing}
use Rattle.cc_listing_calls.proofs.Passings.{if_parameters, more_parameters}
use Rattle.cc_listing_calls.proofs.listed.parameter_rows.Goals as goal

pub returns-clause-rows : goal.returns-clause-rows
returns-clause-rows c =
    let P : Passing = record { arguments = c.as_slice-arguments.result; formals = c.args.calls.formals; by_site = c.as_slice.result; by_callee = c.as_slice-2.result; sources = c.args.sources; taken = c.as_slice-3.result } in
    if_parameters c.args.roads.next.now c.args.roads.within.now c.args.root c.args.tables.now c.args.reach.now (accesses_of c.args.uses) c.args.calls P c.as_slice-4.result.now
    c.requires.reach (c.as_slice-4.ensures.value ∙ c.in_ok-live.ensures) (rw c.as_slice-arguments.ensures.value c.in_ok-handed.ensures) (rw c.as_slice.ensures.value c.in_ok-by_site.ensures) refl (rw c.as_slice-2.ensures.value c.in_ok-by_callee.ensures) c.requires.sources (rw c.as_slice-3.ensures.value c.in_ok-taken.ensures)
    c.add_parameters.result c.args.rows.now.items c.add_parameters.new.rows.items c.add_parameters.ensures.rows

pub returns-clause-many : goal.returns-clause-many
returns-clause-many c = λ is.
    let P : Passing = record { arguments = c.as_slice-arguments.result; formals = c.args.calls.formals; by_site = c.as_slice.result; by_callee = c.as_slice-2.result; sources = c.args.sources; taken = c.as_slice-3.result } in
    more_parameters c.args.roads.next.now c.args.roads.within.now c.args.root c.args.tables.now c.args.reach.now (accesses_of c.args.uses) c.args.calls P c.as_slice-4.result.now
    c.requires.reach (c.as_slice-4.ensures.value ∙ c.in_ok-live.ensures) (rw c.as_slice-arguments.ensures.value c.in_ok-handed.ensures) (rw c.as_slice.ensures.value c.in_ok-by_site.ensures) refl (rw c.as_slice-2.ensures.value c.in_ok-by_callee.ensures) c.requires.sources (rw c.as_slice-3.ensures.value c.in_ok-taken.ensures)
    c.args.rows.now.items c.args.most (c.add_parameters.ensures.many is)
