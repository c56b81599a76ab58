use Rattle.std.proofs.Common.{◌/◌, ◌%◌, arith}
use Rattle.cc_top.proofs.WordFacts.{is_two, two_told}
use Rattle.cc_top.proofs.words.of_two.Goals as goal

pub returns-in-Some-Some-clause-some : goal.returns-in-Some-Some-clause-some
returns-in-Some-Some-clause-some c =
    let t = c.in-Some-Some.ensures.some in
    let o = c.in-Some-Some.ensures'.some in
    let some = c.if-tens-ge1.true in
    let within = c.if-tens-ones-le60.true in
    ((omega (arith, some), omega (arith, within)), two_told c.args.tens c.args.ones c.in-Some-Some.tens c.in-Some-Some.ones (omega (arith, some)) t.0 o.0 (omega (arith, within)) t.1 o.1)

pub returns-in_default-clause-none : goal.returns-in_default-clause-none
returns-in_default-clause-none c = λ n count e.
    let told = is_two c.args.tens c.args.ones n count e in
    let t = c.in-Some-Some.ensures.some in
    let o = c.in-Some-Some.ensures'.some in
    let past = c.if-tens-ones-le60.false in
    absurd (omega (arith, told.1, told.2, t.1, o.1, past, count.1))

pub returns-in_default-2-clause-none : goal.returns-in_default-2-clause-none
returns-in_default-2-clause-none c = λ n count e.
    let told = is_two c.args.tens c.args.ones n count e in
    let t = c.in-Some-Some.ensures.some in
    let none = c.if-tens-ge1.false in
    absurd (omega (arith, told.0, told.1, t.1, none))

pub returns-in_default-3-clause-none : goal.returns-in_default-3-clause-none
returns-in_default-3-clause-none c = λ n count e.
    let told = is_two c.args.tens c.args.ones n count e in
    c.in_default.ensures'.none (n % 10) (omega arith) told.2

pub returns-in_default-4-clause-none : goal.returns-in_default-4-clause-none
returns-in_default-4-clause-none c = λ n count e.
    let told = is_two c.args.tens c.args.ones n count e in
    let none = rw c.in_default.is-0 at c.digit.ensures.none in
    none (n / 10) (omega (arith, count.1)) told.1
