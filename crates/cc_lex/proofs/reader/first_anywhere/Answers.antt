use Rattle.cc_lex.proofs.Settled.{one_more}
use Rattle.cc_lex.proofs.reader.first_anywhere.Goals as goal

pub loop-at-preserved : goal.loop-at-preserved
loop-at-preserved c = one_more c.args.bytes.now c.back.result.now c.loop-at.at c.back.ensures.value c.in-None.ensures c.loop-at.invariant
