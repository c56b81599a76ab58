use Rattle.std.proofs.Common.{◌≡◌, drop}
use Rattle.cc_uses.specs.Putting.{put_from}
use Rattle.cc_uses.specs.Reading.{put_read}
use Rattle.cc_uses.proofs.reads.put_reads.Given as goal

abbrev pub invariant-loop-placed : goal.invariant-loop-placed
invariant-loop-placed l = record {
  put : put_from (put_read l.known.program.now l.known.graph.now l.known.facts.now l.known.peeled.now l.known.around.now) (drop l.placed-index l.nodes) l.n l.out.items
      ≡ put_from (put_read l.known.program.now l.known.graph.now l.known.facts.now l.known.peeled.now l.known.around.now) l.nodes 0 l.initial.out.items;
  counted : l.n ≡ l.placed-index;
}
