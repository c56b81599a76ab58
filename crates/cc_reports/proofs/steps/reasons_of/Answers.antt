use Rattle.std.proofs.Common.{◌<◌, ◌^◌, arith, length, sym, subst}
use Rattle.cc_reports.proofs.Short.{few_reasons}
use Rattle.cc_reports.proofs.steps.reasons_of.Goals as goal

pub returns-in-Ok-clause-few : goal.returns-in-Ok-clause-few
returns-in-Ok-clause-few c =
    let few : length c.args.listing.now < 2 ^ 32 = omega (arith, c.len-rows.ensures, c.len-rows.type_inv) in
    subst (λ all. length all < 2 ^ 32) (sym c.in-Ok.ensures.reasons) (few_reasons c.args.program.now c.args.listing.now c.in-Some.list.now few)
