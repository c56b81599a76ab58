use Rattle.std.proofs.Common.{◌≡◌, drop}
use Rattle.cc_uses.specs.Putting.{put_from}
use Rattle.cc_uses.specs.Writing.{put_write}
use Rattle.cc_uses.proofs.writes.put_writes.Given as goal

abbrev pub invariant-loop-placed : goal.invariant-loop-placed
invariant-loop-placed l = record {
  put : put_from (put_write l.program l.graph l.facts l.peeled) (drop l.placed-index l.nodes) l.n l.out.items ≡ put_from (put_write l.program l.graph l.facts l.peeled) l.nodes 0 l.initial.out.items;
  counted : l.n ≡ l.placed-index;
}
