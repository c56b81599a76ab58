use Rattle.std.proofs.Common.{◌≡◌, drop}
use Rattle.cc_across.specs.Reaching.{calls_joined}
use Rattle.cc_across.proofs.reach.join_calls.Given as goal

abbrev pub invariant-loop-call : goal.invariant-loop-call
invariant-loop-call l = calls_joined l.arena l.owners l.count (drop l.call-index l.calls) l.pairs.items ≡ calls_joined l.arena l.owners l.count l.calls l.initial.pairs.items
