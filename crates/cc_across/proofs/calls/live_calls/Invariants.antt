use Rattle.std.proofs.Common.{◌≡◌, drop}
use Rattle.cc_across.specs.Reaching.{live_calls}
use Rattle.cc_across.proofs.calls.live_calls.Given as goal

abbrev pub invariant-loop-call : goal.invariant-loop-call
invariant-loop-call l = live_calls l.arena l.owners l.live (drop l.call-index l.calls) l.kept.items ≡ live_calls l.arena l.owners l.live l.calls l.initial.kept.items
