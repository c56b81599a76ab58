use Rattle.std.proofs.Common.{drop}
use Rattle.cc_first_runs.specs.Stacks.{program_view, IsTesting}
use Rattle.cc_first_runs.proofs.run.run_events.Given as goal

abbrev pub invariant-loop-call : goal.invariant-loop-call
invariant-loop-call l = IsTesting (program_view l.program) l.calls (drop l.call-index l.calls) l.turns l.machine
