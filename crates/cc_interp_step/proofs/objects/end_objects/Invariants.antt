use Rattle.std.proofs.Common.{◌≡◌, ◌≤◌}
use Rattle.cc_acts.specs.Parts.{end_names}
use Rattle.cc_interp_step.specs.Progress.{behind}
use Rattle.cc_interp_step.proofs.objects.end_objects.Given as goal

abbrev pub invariant-loop-left : goal.invariant-loop-left
invariant-loop-left l = record {
  same : behind l.outbox (end_names l.base l.left l.state) ≡ behind l.initial.outbox (end_names l.base l.count l.initial.state);
  below : l.left ≤ l.count;
}

abbrev pub decreases-loop-left : goal.decreases-loop-left
decreases-loop-left l = l.left
