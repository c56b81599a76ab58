use Rattle.std.proofs.Common.{◌≡◌, drop}
use Rattle.cc_acts.specs.Parts.{fill_all}
use Rattle.cc_interp_step.specs.Progress.{behind}
use Rattle.cc_interp_step.proofs.objects.fill_all.Given as goal

abbrev pub invariant-loop-filler : goal.invariant-loop-filler
invariant-loop-filler l = behind l.outbox (fill_all l.occ l.act l.p l.operands l.at.k l.at.i (drop l.filler-index l.fillers) l.state) ≡ behind l.initial.outbox (fill_all l.occ l.act l.p l.operands 0 0 l.fillers l.initial.state)
