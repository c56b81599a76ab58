use Rattle.std.proofs.Common.{ℕ, ◌≡◌, ◌+◌, ◌++◌, ◌∷◌, [], Err, take, slice_index_or, sym, ap, ◌∙◌, subst}
use Rattle.std.proofs.lemmas.List.{take_more, take_all}
use Rattle.std.proofs.lemmas.Result.{err_from_is_err_and}
use Rattle.cc_rows.specs.Gains.{Gains, Each}
use Rattle.cc_rows.specs.Order.{row_cmp}
use Rattle.cc_rows.proofs.Gained.{each_none, each_on, each_in, more_now}
use Rattle.std.specs.Prelude.{Contains}
use Rattle.cc_listing_calls.proofs.Ordering.{more_rows}
use Rattle.cc_listing_calls.specs.Rows.{IsParameterOf, OfDefinition}
use Rattle.cc_listing_calls.proofs.rows.add_readers.Goals as goal

pub loop-reader-init : goal.loop-reader-init
loop-reader-init c = each_none (IsParameterOf c.args.call c.args.argument c.args.definition) c.args.rows.now.items

pub loop-reader-preserved : goal.loop-reader-preserved
loop-reader-preserved c =
    let items = c.args.readers.now in
    let k = c.loop-reader.reader-index in
    let u : ℕ = slice_index_or items k 0 in
    let more : take (k + 1) items ≡ take k items ++ u ∷ [] = take_more items k 0 c.loop-reader-test.true in
    rw more (each_on (IsParameterOf c.args.call c.args.argument c.args.definition) (take k items) u c.args.rows.now.items c.loop-reader.rows.items c.add_row.new.rows.items c.loop-reader.invariant (rw c.parameter.ensures at c.in_ok-add_row.ensures.added))

pub returns-clause-rows : goal.returns-clause-rows
returns-clause-rows c = subst (λ xs. Gains c.args.rows.now.items c.loop-reader.rows.items (Each xs (IsParameterOf c.args.call c.args.argument c.args.definition))) (take_all c.loop-reader.reader-index c.args.readers.now c.loop-reader-test.false) c.loop-reader.invariant

pub returns-in_err-add_row-clause-many : goal.returns-in_err-add_row-clause-many
returns-in_err-add_row-clause-many c = λ is.
    let items = c.args.readers.now in
    let k = c.loop-reader.reader-index in
    let P = IsParameterOf c.args.call c.args.argument c.args.definition in
    let p = err_from_is_err_and c.from_residual.result c.from_residual.ensures.1 in
    more_now row_cmp c.args.most c.args.rows.now.items c.loop-reader.rows.items (Each (take k items) P) (OfDefinition c.args.call c.args.argument items c.args.definition)
    c.loop-reader.invariant (each_in P items k) (more_rows (Contains c.loop-reader.rows.items) c.args.most (c.in_err-add_row.ensures.many (ap Err (sym p.2) ∙ sym p.1 ∙ is)))
