use Rattle.std.proofs.Common.{◌≡◌, drop}
use Rattle.cc_acts.specs.Parts.{write_cells}
use Rattle.cc_interp_step.specs.Progress.{behind}
use Rattle.cc_interp_step.proofs.assignments.write_cells.Given as goal

abbrev pub invariant-loop-k : goal.invariant-loop-k
invariant-loop-k l = behind l.outbox (write_cells l.occ l.act l.p l.k (drop l.k l.values) l.state) ≡ behind l.initial.outbox (write_cells l.occ l.act l.p 0 l.values l.initial.state)
