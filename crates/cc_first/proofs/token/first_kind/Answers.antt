use Rattle.std.proofs.Common.{sym}
use Rattle.cc_first.proofs.TokenLaws.{word_none, word_some}
use Rattle.cc_first.proofs.token.first_kind.Goals as goal

pub returns-in_err-kind-in-None-clause-none : goal.returns-in_err-kind-in-None-clause-none
returns-in_err-kind-in-None-clause-none c =
    rw c.from_residual-in_err-kind-in-None.ensures
    (word_none c.args.text.now c.in_ok-first.first.now c.word_len-len.result (sym c.in_ok-first.ensures.value) c.in-None.ensures.none c.word_len-len.ensures.value c.in_err-kind-in-None.ensures.none)

pub returns-in_ok-kind-in-None-clause-some : goal.returns-in_ok-kind-in-None-clause-some
returns-in_ok-kind-in-None-clause-some c =
    word_some c.args.text.now c.in_ok-first.first.now c.word_len-len.result c.in_ok-kind-in-None.kind (sym c.in_ok-first.ensures.value) c.word_len-len.ensures.value c.word_len-len.ensures.within
    c.in_ok-kind-in-None.ensures.some.0 c.in_ok-kind-in-None.ensures.some.1 c.in-None.ensures.none
