use Rattle.std.proofs.Common.{◌≡◌, ◌+◌}
use Rattle.cc_interp_step.specs.Cells.{read_on}
use Rattle.cc_interp_step.specs.Progress.{told}
use Rattle.cc_interp_step.proofs.places.read_cells.Given as goal

abbrev pub invariant-loop-left : goal.invariant-loop-left
invariant-loop-left l = record {
  same : told l.m (read_on l.occ l.p l.k l.left l.next l.m.frame l.m.operands l.m.callers l.m.state) ≡ told l.initial.m (read_on l.occ l.p 0 l.count l.next l.initial.m.frame l.initial.m.operands l.initial.m.callers l.initial.m.state);
  here : l.act ≡ l.m.frame.act;
  sum : l.k + l.left ≡ l.count;
}

abbrev pub decreases-loop-left : goal.decreases-loop-left
decreases-loop-left l = l.left
