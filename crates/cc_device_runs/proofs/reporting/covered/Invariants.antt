use Rattle.std.proofs.Common.{◌≡◌, ◌≤◌, drop}
use Rattle.cc_device_runs.specs.Texts.{covered_from}
use Rattle.cc_device_runs.proofs.reporting.covered.Given as goal

abbrev pub invariant-loop-mark : goal.invariant-loop-mark
invariant-loop-mark l = record {
  counted : covered_from l.count (drop l.mark-index l.marks) ≡ covered_from 0 l.marks;
  few : l.count ≤ l.mark-index;
}
