use Rattle.std.proofs.Common.{◌≡◌, drop}
use Rattle.cc_parts.specs.Objects.{with_literals}
use Rattle.cc_parts.proofs.program.put_literals.Given as goal

abbrev pub invariant-loop-placed : goal.invariant-loop-placed
invariant-loop-placed l = record {
  put : with_literals (drop l.placed-index l.nodes) l.n l.parts ≡ with_literals l.nodes 0 l.initial.parts;
  counted : l.n ≡ l.placed-index;
}
