use Rattle.std.proofs.Common.{◌≡◌, drop}
use Rattle.cc_points_view.specs.Views.{with_seen}
use Rattle.cc_points_view.proofs.make.put_seen.Given as goal

abbrev pub invariant-loop-x : goal.invariant-loop-x
invariant-loop-x l = record {
  put : with_seen l.known.program.now l.known.parts.now l.known.tables.now l.known.around.now l.known.count l.known.functions l.known.standings.now (drop l.x-index l.placed) l.n l.object l.nodes
      ≡ with_seen l.known.program.now l.known.parts.now l.known.tables.now l.known.around.now l.known.count l.known.functions l.known.standings.now l.placed 0 l.first l.initial.nodes;
  counted : l.n ≡ l.x-index;
}
