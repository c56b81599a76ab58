use Rattle.cc_record.proofs.Moves.{told_by, told_now, asked_does}
use Rattle.cc_record.proofs.recorder.Recorder.take.Goals as goal

pub returns-in-Enter-clause-told : goal.returns-in-Enter-clause-told
returns-in-Enter-clause-told c = told_by c.enter.result c.args.self.now c.enter.new.self _ c.args.event.now c.in-Enter.is c.enter.ensures.told

pub returns-in-Pass-clause-told : goal.returns-in-Pass-clause-told
returns-in-Pass-clause-told c = told_by c.pass.result c.args.self.now c.pass.new.self _ c.args.event.now c.in-Pass.is c.pass.ensures.told

pub returns-in-Def-clause-told : goal.returns-in-Def-clause-told
returns-in-Def-clause-told c = told_by c.define.result c.args.self.now c.define.new.self _ c.args.event.now c.in-Def.is c.define.ensures.told

pub returns-in-Use-clause-told : goal.returns-in-Use-clause-told
returns-in-Use-clause-told c = told_by c.read.result c.args.self.now c.read.new.self _ c.args.event.now c.in-Use.is c.read.ensures.told

pub returns-in-Leave-clause-told : goal.returns-in-Leave-clause-told
returns-in-Leave-clause-told c = told_by c.leave.result c.args.self.now c.leave.new.self _ c.args.event.now c.in-Leave.is c.leave.ensures.told

pub returns-in-Gone-clause-told : goal.returns-in-Gone-clause-told
returns-in-Gone-clause-told c = told_now c.args.self.now c.gone.new.self _ c.args.event.now c.in-Gone.is c.gone.ensures

pub returns-in-Ask-clause-told : goal.returns-in-Ask-clause-told
returns-in-Ask-clause-told c = told_now c.args.self.now c.args.self.now _ c.args.event.now c.in-Ask.is (asked_does c.args.self.now c.in-Ask.site c.in-Ask.callee c.in-Ask.act)
