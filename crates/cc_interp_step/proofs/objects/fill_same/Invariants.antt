use Rattle.std.proofs.Common.{◌≡◌, ◌+◌}
use Rattle.cc_acts.specs.Parts.{fill_same}
use Rattle.cc_interp_step.specs.Progress.{behind}
use Rattle.cc_interp_step.proofs.objects.fill_same.Given as goal

abbrev pub invariant-loop-left : goal.invariant-loop-left
invariant-loop-left l = record {
  same : behind l.outbox (fill_same l.occ l.act l.p l.at l.left l.value l.state) ≡ behind l.initial.outbox (fill_same l.occ l.act l.p l.k l.count l.value l.initial.state);
  sum : l.at + l.left ≡ l.k + l.count;
}

abbrev pub decreases-loop-left : goal.decreases-loop-left
decreases-loop-left l = l.left
