use Rattle.std.proofs.Common.{◌≡◌, Some, sym, ◌∙◌}
use Rattle.std.specs.Prelude.{slice_get}
use Rattle.cc_rows.specs.Gains.{Or, Each}
use Rattle.cc_rows.specs.Order.{row_cmp}
use Rattle.cc_rows.proofs.Gained.{gains_none, gains_as_ok, more_as, or_as}
use Rattle.cc_listing_calls.specs.Rows.{OfFormal, OfArgument}
use Rattle.cc_listing_calls.proofs.Parting.{to_argument, from_argument}
use Rattle.cc_listing_calls.proofs.rows.add_argument.Goals as goal

pub returns-in-None-clause-rows : goal.returns-in-None-clause-rows
returns-in-None-clause-rows c = gains_none c.args.rows.now.items (OfArgument c.args.passing c.args.call c.args.i) (λ x w. let none = sym c.argument_at.ensures ∙ c.in-None.is in let some = w.1 in cc)

pub returns-in-Some-clause-rows : goal.returns-in-Some-clause-rows
returns-in-Some-clause-rows c =
    let a = c.in-Some.argument in
    let at : slice_get c.args.passing.arguments.now c.args.i ≡ Some a = sym c.argument_at.ensures ∙ c.in-Some.is in
    gains_as_ok c.add_formals.result c.args.rows.now.items c.add_formals.new.rows.items (Each c.items_at.result.now (OfFormal c.args.passing c.args.call a)) (OfArgument c.args.passing c.args.call c.args.i)
    (λ x. rw c.items_at.ensures (to_argument c.args.passing c.args.call c.args.i a at x))
    (λ x. rw c.items_at.ensures (from_argument c.args.passing c.args.call c.args.i a at x))
    c.add_formals.ensures.rows

pub returns-in-Some-clause-many : goal.returns-in-Some-clause-many
returns-in-Some-clause-many c = λ is.
    let a = c.in-Some.argument in
    let at : slice_get c.args.passing.arguments.now c.args.i ≡ Some a = sym c.argument_at.ensures ∙ c.in-Some.is in
    let P = Each c.items_at.result.now (OfFormal c.args.passing c.args.call a) in
    let Q = OfArgument c.args.passing c.args.call c.args.i in
    more_as row_cmp c.args.most (Or c.args.rows.now.items P) (Or c.args.rows.now.items Q)
    (or_as row_cmp c.args.most c.args.rows.now.items P Q (λ x. rw c.items_at.ensures (to_argument c.args.passing c.args.call c.args.i a at x)))
    (c.add_formals.ensures.many is)
