use Rattle.std.proofs.Common.{rules, ◌≡◌, true, false, Some, refl, sym, ap, ◌∙◌}
use Rattle.std.specs.Prelude.{slice_get}
use Rattle.cc_rows.proofs.Gained.{gains_none, gains_one_ok}
use Rattle.cc_flows.specs.Flows.{IsOne, found_of}
use Rattle.cc_flows.proofs.Gaining.{one_only}
use Rattle.cc_flows.proofs.flow.gather_one.Goals as goal

pub returns-then-not-has-clause-found : goal.returns-then-not-has-clause-found
returns-then-not-has-clause-found c =
    let is : c.has.result ≡ false = search rules in
    gains_none c.args.found.now.items (IsOne c.args.definitions.now c.args.bits.now c.args.reader c.args.i)
    (λ f x. let yes = c.has.ensures.1 x.0 in cc)

pub returns-in-Some-clause-found : goal.returns-in-Some-clause-found
returns-in-Some-clause-found c =
    let is : c.has.result ≡ true = search rules in
    let at = sym c.definition_at.ensures ∙ c.in-Some.is in
    gains_one_ok c.add_row.result c.args.found.now.items c.add_row.new.rows.items (found_of c.in-Some.definition c.args.reader) (IsOne c.args.definitions.now c.args.bits.now c.args.reader c.args.i)
    (c.has.ensures.0 is, c.in-Some.definition, at, refl)
    (λ f x. one_only c.args.definitions.now c.args.bits.now c.args.reader c.args.i c.in-Some.definition at f x)
    (rw c.found_of.ensures at c.add_row.ensures.added)

pub returns-in-None-clause-found : goal.returns-in-None-clause-found
returns-in-None-clause-found c = gains_none c.args.found.now.items (IsOne c.args.definitions.now c.args.bits.now c.args.reader c.args.i)
    (λ f x. let none = sym c.definition_at.ensures ∙ c.in-None.is in let some = x.2 in cc)
