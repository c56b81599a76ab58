use Rattle.std.proofs.lemmas.Result.{IfOk-weaker}
use Rattle.cc_lex.specs.Cut.{Cut, IsRefused}
use Rattle.cc_lex.specs.Reading.{IsAll, HasStopped}
use Rattle.cc_lex.proofs.Settled.{all_cut, stopped_refused, if_err_with}
use Rattle.cc_lex.proofs.reader.lex.Goals as goal

pub returns-in-None-clause-cut : goal.returns-in-None-clause-cut
returns-in-None-clause-cut c = IfOk-weaker c.read.result (IsAll c.args.bytes.now) (Cut c.args.bytes.now) (λ ts a. all_cut c.args.bytes.now ts c.in-None.ensures a) c.read.ensures.all

pub returns-in-None-clause-refused : goal.returns-in-None-clause-refused
returns-in-None-clause-refused c = if_err_with c.read.result (HasStopped c.args.bytes.now) (IsRefused c.args.bytes.now) (λ e a. stopped_refused c.args.bytes.now e c.in-None.ensures a) c.read.ensures.stopped
