use Rattle.std.proofs.Common.{◌∙◌, ap, sym, subst, List, All}
use Rattle.std.specs.List.{flat_map}
use Rattle.csv.specs.Writing.{default_writer, row_text}
use Rattle.cc_first.specs.ListingRows.{IsWithin, fields_from}
use Rattle.cc_first.specs.Views.{project_view}
use Rattle.cc_first.specs.declared.program.Call.{Call}
use Rattle.cc_first.proofs.ListingText.{lines, are_within, rows_text}
use Rattle.cc_first.proofs.listing.program_table.Goals as goal

pub rows_of-requires : goal.rows_of-requires
rows_of-requires c =
    let found = c.in_ok-couplings.ensures in
    let functions = c.args.program.now.functions.items in
    subst (λ (calls : List Call). All (IsWithin functions) calls) (sym c.deref.ensures.value)
    (are_within functions c.args.program.now.calls.items found.0 c.in_ok-couplings.couplings.items found.2)

pub returns-in-Ok : goal.returns-in-Ok
returns-in-Ok c =
    let found = c.in_ok-couplings.ensures in
    let program = c.args.program.now in
    let project = project_view c.args.project.now in
    let calls = c.in_ok-couplings.couplings.items in
    let fields = fields_from project program.functions.items 1 calls in
    let made = c.in_ok-rows.ensures ∙ ap (fields_from project program.functions.items 1) c.deref.ensures.value in (
      found.0,
      found.1,
      flat_map (row_text default_writer) fields,
      lines project program.functions.items program.calls.items c.requires.well c.requires.free 1 found.0 calls found.2,
      c.in-Ok.ensures ∙ rows_text c.deref-2.result.now c.in_ok-rows.rows.items fields c.deref-2.ensures.value made,
    )
