use Rattle.std.proofs.Common.{ℕ, ◌≡◌, ◌+◌, ◌++◌, ◌∷◌, [], Err, take, slice_index_or, sym, ap, ◌∙◌, subst}
use Rattle.std.proofs.lemmas.Option.{slice_get-get_or}
use Rattle.std.proofs.lemmas.List.{take_more, take_all}
use Rattle.std.proofs.lemmas.Result.{err_from_is_err_and}
use Rattle.cc_rows.specs.Gains.{Gains, Each}
use Rattle.cc_rows.specs.Order.{row_cmp}
use Rattle.cc_rows.proofs.Gained.{each_none, each_on, each_in, each_one, more_later}
use Rattle.cc_listing_calls.specs.Rows.{OfDefinition}
use Rattle.cc_listing_calls.proofs.rows.add_definitions.Goals as goal

pub loop-definition-init : goal.loop-definition-init
loop-definition-init c = each_none (OfDefinition c.args.call c.args.argument c.args.readers.now) c.args.rows.now.items

pub loop-definition-preserved : goal.loop-definition-preserved
loop-definition-preserved c =
    let items = c.args.definitions.now in
    let k = c.loop-definition.definition-index in
    let d : ℕ = slice_index_or items k 0 in
    let more : take (k + 1) items ≡ take k items ++ d ∷ [] = take_more items k 0 c.loop-definition-test.true in
    rw more (each_on (OfDefinition c.args.call c.args.argument c.args.readers.now) (take k items) d c.args.rows.now.items c.loop-definition.rows.items c.add_readers.new.rows.items c.loop-definition.invariant c.in_ok-add_readers.ensures.rows)

pub returns-clause-rows : goal.returns-clause-rows
returns-clause-rows c = subst (λ xs. Gains c.args.rows.now.items c.loop-definition.rows.items (Each xs (OfDefinition c.args.call c.args.argument c.args.readers.now))) (take_all c.loop-definition.definition-index c.args.definitions.now c.loop-definition-test.false) c.loop-definition.invariant

pub returns-in_err-add_readers-clause-many : goal.returns-in_err-add_readers-clause-many
returns-in_err-add_readers-clause-many c = λ is.
    let items = c.args.definitions.now in
    let k = c.loop-definition.definition-index in
    let d : ℕ = slice_index_or items k 0 in
    let P = OfDefinition c.args.call c.args.argument c.args.readers.now in
    let p = err_from_is_err_and c.from_residual.result c.from_residual.ensures.1 in
    more_later row_cmp c.args.most c.args.rows.now.items c.loop-definition.rows.items (Each (take k items) P) (P d) (Each items P)
    c.loop-definition.invariant (each_in P items k) (each_one P items k d (slice_get-get_or items k 0 c.loop-definition-test.true))
    (c.in_err-add_readers.ensures.many (ap Err (sym p.2) ∙ sym p.1 ∙ is))
