use Rattle.std.proofs.Common.{◌≡◌, Some, None, arith, List, Result, Ok, Err, OnOk, subst, sym}
use Rattle.std.specs.Prelude.{OnErr}
use Rattle.cc_record_tables.specs.declared.cells.Row.{Row}
use Rattle.cc_record_tables.specs.CellTable.{place_from, Puts}
use Rattle.cc_record_tables.proofs.CellFacts.{placed_first, placed_within, placed_object, absent_first, puts_placed, same_placed, puts_behind, row_at}
use Rattle.cc_record_tables.proofs.cells.put_in_rows.Goals as goal

on_ok : {A E P Q : Type 0} (r : Result A E) → OnOk r P → (P → Q) → OnOk r Q
on_ok (Ok a) p f = f p
on_ok (Err e) p f = tt

on_err : {A E P Q : Type 0} (r : Result A E) → OnErr r P → (P → Q) → OnErr r Q
on_err (Ok a) p f = tt
on_err (Err e) p f = f p

pub index_mut-requires : goal.index_mut-requires
index_mut-requires c =
    let at : place_from 0 c.args.rows.now.items c.args.object ≡ Some c.in-Some.i = (let a = c.deref.ensures.value in let b = c.place.ensures in let d = c.in-Some.is in cc) in
    omega (arith, placed_within c.args.rows.now.items c.args.object c.in-Some.i (placed_first c.args.rows.now.items c.args.object c.in-Some.i at), c.args.rows.now.ok.0)

pub returns-in-Some-clause-put : goal.returns-in-Some-clause-put
returns-in-Some-clause-put c =
    let rows = c.args.rows.now.items in
    let at : place_from 0 rows c.args.object ≡ Some c.in-Some.i = (let a = c.deref.ensures.value in let b = c.place.ensures in let d = c.in-Some.is in cc) in
    let placed = placed_first rows c.args.object c.in-Some.i at in
    let row = c.index_mut.result.now in
    let get = row_at rows c.in-Some.i row (placed_within rows c.args.object c.in-Some.i placed) c.index_mut.ensures.value in
    on_ok c.put_in_row.result c.put_in_row.ensures.put
    (puts_placed rows c.args.object c.in-Some.i c.args.index c.args.slot row c.put_in_row.new.row placed get c.put_in_row.ensures.object (placed_object rows c.args.object c.in-Some.i row placed get))

pub returns-in-Some-clause-err : goal.returns-in-Some-clause-err
returns-in-Some-clause-err c =
    let rows = c.args.rows.now.items in
    let at : place_from 0 rows c.args.object ≡ Some c.in-Some.i = (let a = c.deref.ensures.value in let b = c.place.ensures in let d = c.in-Some.is in cc) in
    let placed = placed_first rows c.args.object c.in-Some.i at in
    let row = c.index_mut.result.now in
    let get = row_at rows c.in-Some.i row (placed_within rows c.args.object c.in-Some.i placed) c.index_mut.ensures.value in
    on_err c.put_in_row.result c.put_in_row.ensures.err
    (same_placed rows c.args.object c.in-Some.i row c.put_in_row.new.row placed get c.put_in_row.ensures.object (placed_object rows c.args.object c.in-Some.i row placed get))

pub returns-in_ok-push-in-None-clause-put : goal.returns-in_ok-push-in-None-clause-put
returns-in_ok-push-in-None-clause-put c =
    let rows = c.args.rows.now.items in
    let at : place_from 0 rows c.args.object ≡ None = (let a = c.deref.ensures.value in let b = c.place.ensures in let d = c.in-None.is in cc) in
    let made = c.in_ok-row-in-None.ensures in
    subst (λ (l : List Row). Puts rows c.args.object c.args.index c.args.slot l) (sym c.in_ok-push-in-None.ensures.items)
    (puts_behind rows c.args.object c.args.index c.args.slot c.in_ok-row-in-None.row (absent_first rows 0 c.args.object at) made.object made.put)
