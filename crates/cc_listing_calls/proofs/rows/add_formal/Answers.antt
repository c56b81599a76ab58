use Rattle.std.proofs.Common.{rules, ◌≡◌, true, false, sym, ◌∙◌}
use Rattle.cc_rows.specs.Gains.{Or, Each}
use Rattle.cc_rows.specs.Order.{row_cmp}
use Rattle.cc_rows.proofs.Gained.{gains_none, gains_as_ok, more_as, or_as}
use Rattle.cc_listing_calls.specs.Rows.{takes, OfFormal, OfDefinition}
use Rattle.cc_listing_calls.proofs.rows.add_formal.Goals as goal

pub returns-then-not-takes-clause-rows : goal.returns-then-not-takes-clause-rows
returns-then-not-takes-clause-rows c =
    let is : c.takes.result ≡ false = search rules in
    gains_none c.args.rows.now.items (OfFormal c.args.passing c.args.call c.args.argument c.args.j) (λ x w. let yes = w.0 in let same = c.takes.ensures in cc)

pub returns-clause-rows : goal.returns-clause-rows
returns-clause-rows c =
    let is : c.takes.result ≡ true = search rules in
    let passes : takes c.args.passing.formals.now c.args.argument c.args.j ≡ true = sym c.takes.ensures ∙ is in
    gains_as_ok c.add_definitions.result c.args.rows.now.items c.add_definitions.new.rows.items (Each c.definitions_of.result.now (OfDefinition c.args.call c.args.argument c.items_at.result.now)) (OfFormal c.args.passing c.args.call c.args.argument c.args.j)
    (λ x. rw (c.items_at.ensures, c.definitions_of.ensures) (λ w. (passes, w)))
    (λ x. rw (c.items_at.ensures, c.definitions_of.ensures) (λ w. w.1))
    c.add_definitions.ensures.rows

pub returns-clause-many : goal.returns-clause-many
returns-clause-many c = λ is.
    let yes : c.takes.result ≡ true = search rules in
    let passes : takes c.args.passing.formals.now c.args.argument c.args.j ≡ true = sym c.takes.ensures ∙ yes in
    let P = Each c.definitions_of.result.now (OfDefinition c.args.call c.args.argument c.items_at.result.now) in
    let Q = OfFormal c.args.passing c.args.call c.args.argument c.args.j in
    more_as row_cmp c.args.most (Or c.args.rows.now.items P) (Or c.args.rows.now.items Q)
    (or_as row_cmp c.args.most c.args.rows.now.items P Q (λ x. rw (c.items_at.ensures, c.definitions_of.ensures) (λ w. (passes, w))))
    (c.add_definitions.ensures.many is)
