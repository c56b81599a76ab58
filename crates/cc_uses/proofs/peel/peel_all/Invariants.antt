use Rattle.std.proofs.Common.{◌≡◌, drop, length}
use Rattle.cc_uses.specs.Peeling.{peeled}
use Rattle.cc_uses.proofs.peel.peel_all.Given as goal

abbrev pub invariant-loop-n : goal.invariant-loop-n
invariant-loop-n l = record {
  made : drop l.n l.all ≡ peeled (drop l.n l.nodes) l.n;
  long : length l.all ≡ length l.nodes;
}
