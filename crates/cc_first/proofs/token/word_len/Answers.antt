use Rattle.std.proofs.Common.{sym}
use Rattle.cc_first.proofs.TokenLaws.{len_found, len_none}
use Rattle.cc_first.proofs.token.word_len.Goals as goal

pub returns-in-Some-clause-value : goal.returns-in-Some-clause-value
returns-in-Some-clause-value c = len_found c.args.text.now c.in-Some.len (sym c.in-Some.ensures)

pub returns-in-None-clause-value : goal.returns-in-None-clause-value
returns-in-None-clause-value c = len_none c.args.text.now (sym c.in-None.ensures)
