use Rattle.std.proofs.Common.{◌≡◌, drop}
use Rattle.cc_across.specs.Stepping.{row_steps}
use Rattle.cc_across.proofs.steps.push_row.Given as goal

abbrev pub invariant-loop-q : goal.invariant-loop-q
invariant-loop-q l = row_steps l.points l.p (drop l.q-index l.row) l.pairs.items ≡ row_steps l.points l.p l.row l.initial.pairs.items
