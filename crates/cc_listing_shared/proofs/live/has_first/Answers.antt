use Rattle.std.proofs.Common.{sym, ap, ◌∙◌, arith}
use Rattle.std.specs.Prelude.{nat_eq}
use Rattle.std.proofs.lemmas.Bool.{ne_eqb}
use Rattle.cc_flows.proofs.Passing.{at_row}
use Rattle.cc_flows.proofs.Masking.{none_at}
use Rattle.cc_listing_shared.proofs.Truth.{test_is}
use Rattle.cc_listing_shared.proofs.live.has_first.Goals as goal

pub returns-in-Some : goal.returns-in-Some
returns-in-Some c = test_is c.has.result _ c.has.ensures ∙ ap (λ n. nat_eq n 1) (sym (at_row c.args.reach.now c.args.point 0 c.in-Some.block (sym c.find.ensures ∙ c.in-Some.is)))

pub returns-in-None : goal.returns-in-None
returns-in-None c = let z = none_at c.args.reach.now c.args.point 0 (sym c.find.ensures ∙ c.in-None.is) in sym (ne_eqb _ 1 (λ e. omega (arith, z, e)))
