use Rattle.std.proofs.Common.{arith}
use Rattle.cc_top.proofs.WordFacts.{is_one, one_told}
use Rattle.cc_top.proofs.words.of_one.Goals as goal

pub returns-in-Some-clause-some : goal.returns-in-Some-clause-some
returns-in-Some-clause-some c =
    let is = c.in-Some.ensures.some in
    let some = c.if-n-ge1.true in
    ((omega (arith, some), omega (arith, is.0)), one_told c.args.ones c.in-Some.n is.0 is.1)

pub returns-in_default-clause-none : goal.returns-in_default-clause-none
returns-in_default-clause-none c = λ n count e.
    let told = is_one c.args.ones n count e in
    let is = c.in-Some.ensures.some in
    let none = c.if-n-ge1.false in
    absurd (omega (arith, told.1, is.1, none, count.0))

pub returns-in_default-2-clause-none : goal.returns-in_default-2-clause-none
returns-in_default-2-clause-none c = λ n count e.
    let told = is_one c.args.ones n count e in
    c.in_default.ensures.none n told.0 told.1
