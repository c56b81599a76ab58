use Rattle.std.proofs.Common.{arith}
use Rattle.cc_top.proofs.WordFacts.{no_count}
use Rattle.cc_top.proofs.words.count_of.Goals as goal

pub returns-in_default-clause-none : goal.returns-in_default-clause-none
returns-in_default-clause-none c =
    let short = rw c.as_bytes.ensures.value at c.in_default.len_below in
    no_count c.args.word.now (λ one. absurd (omega (arith, short, one))) (λ two. absurd (omega (arith, short, two)))

pub returns-in_default-2-clause-none : goal.returns-in_default-2-clause-none
returns-in_default-2-clause-none c =
    let long = rw c.as_bytes.ensures.value at c.in_default.len_at_least in
    no_count c.args.word.now (λ one. absurd (omega (arith, long, one))) (λ two. absurd (omega (arith, long, two)))
