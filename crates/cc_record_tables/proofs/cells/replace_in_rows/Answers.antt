use Rattle.std.proofs.Common.{◌≡◌, Some, None, arith}
use Rattle.cc_record_tables.specs.CellTable.{place_from}
use Rattle.cc_record_tables.proofs.CellFacts.{placed_first, placed_within, place_absent, absent_first, replaces_placed, replaces_none, row_at}
use Rattle.cc_record_tables.proofs.cells.replace_in_rows.Goals as goal

pub index_mut-requires : goal.index_mut-requires
index_mut-requires c =
    let at : place_from 0 c.args.rows.now.items c.args.object ≡ Some c.in-Some.i = (let a = c.deref.ensures.value in let b = c.place.ensures in let d = c.in-Some.is in cc) in
    omega (arith, placed_within c.args.rows.now.items c.args.object c.in-Some.i (placed_first c.args.rows.now.items c.args.object c.in-Some.i at), c.args.rows.now.ok.0)

pub returns-in_default : goal.returns-in_default
returns-in_default c =
    let at : place_from 0 c.args.rows.now.items c.args.object ≡ None = (let a = c.deref.ensures.value in let b = c.place.ensures in let d = c.in_default.is in cc) in
    replaces_none c.args.rows.now.items c.args.object c.args.index c.args.slot (place_absent c.args.rows.now.items c.args.object (absent_first c.args.rows.now.items 0 c.args.object at) c.args.index)

pub returns-in-Some : goal.returns-in-Some
returns-in-Some c =
    let at : place_from 0 c.args.rows.now.items c.args.object ≡ Some c.in-Some.i = (let a = c.deref.ensures.value in let b = c.place.ensures in let d = c.in-Some.is in cc) in
    let placed = placed_first c.args.rows.now.items c.args.object c.in-Some.i at in
    let within = placed_within c.args.rows.now.items c.args.object c.in-Some.i placed in
    replaces_placed c.args.rows.now.items c.args.object c.in-Some.i c.args.index c.args.slot c.index_mut.result.now c.replace_in_row.new.row placed
    (row_at c.args.rows.now.items c.in-Some.i c.index_mut.result.now within c.index_mut.ensures.value) c.replace_in_row.ensures.object c.replace_in_row.ensures.put
