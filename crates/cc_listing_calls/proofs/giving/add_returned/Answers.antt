use Rattle.std.proofs.Common.{◌≡◌, Some, sym, ◌∙◌}
use Rattle.std.specs.Prelude.{slice_get}
use Rattle.cc_rows.specs.Gains.{Or, Each}
use Rattle.cc_rows.specs.Order.{row_cmp}
use Rattle.cc_rows.proofs.Gained.{gains_none, gains_as_ok, more_as, or_as}
use Rattle.cc_listing_calls.specs.Givings.{IsReturnOf, OfReturned}
use Rattle.cc_listing_calls.proofs.Parting.{to_returned, from_returned}
use Rattle.cc_listing_calls.proofs.giving.add_returned.Goals as goal

pub returns-in-None-clause-rows : goal.returns-in-None-clause-rows
returns-in-None-clause-rows c = gains_none c.args.rows.now.items (OfReturned c.args.giving c.args.call c.args.i) (λ x w. let none = sym c.returned_at.ensures ∙ c.in-None.is in let some = w.1 in cc)

pub returns-in-Some-clause-rows : goal.returns-in-Some-clause-rows
returns-in-Some-clause-rows c =
    let r = c.in-Some.returned in
    let at : slice_get c.args.giving.returns.now c.args.i ≡ Some r = sym c.returned_at.ensures ∙ c.in-Some.is in
    gains_as_ok c.add_given.result c.args.rows.now.items c.add_given.new.rows.items (Each c.definitions_of.result.now (IsReturnOf c.args.call)) (OfReturned c.args.giving c.args.call c.args.i)
    (λ x. rw c.definitions_of.ensures (to_returned c.args.giving c.args.call c.args.i r at x))
    (λ x. rw c.definitions_of.ensures (from_returned c.args.giving c.args.call c.args.i r at x))
    c.add_given.ensures.rows

pub returns-in-Some-clause-many : goal.returns-in-Some-clause-many
returns-in-Some-clause-many c = λ is.
    let r = c.in-Some.returned in
    let at : slice_get c.args.giving.returns.now c.args.i ≡ Some r = sym c.returned_at.ensures ∙ c.in-Some.is in
    let P = Each c.definitions_of.result.now (IsReturnOf c.args.call) in
    let Q = OfReturned c.args.giving c.args.call c.args.i in
    more_as row_cmp c.args.most (Or c.args.rows.now.items P) (Or c.args.rows.now.items Q)
    (or_as row_cmp c.args.most c.args.rows.now.items P Q (λ x. rw c.definitions_of.ensures (to_returned c.args.giving c.args.call c.args.i r at x)))
    (c.add_given.ensures.many is)
