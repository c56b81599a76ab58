use Rattle.std.proofs.Common.{◌≡◌, drop}
use Rattle.cc_acts.specs.Parts.{pass_all}
use Rattle.cc_interp_step.specs.Progress.{behind}
use Rattle.cc_interp_step.proofs.calls.pass_args.Given as goal

abbrev pub invariant-loop-k : goal.invariant-loop-k
invariant-loop-k l = behind l.outbox (pass_all l.formals l.site l.act l.from l.base l.k (drop l.k l.args) l.state) ≡ behind l.initial.outbox (pass_all l.formals l.site l.act l.from l.base 0 l.args l.initial.state)
