use Rattle.std.proofs.Common.{◌≡◌, ◌+◌, drop}
use Rattle.cc_arena_rules.specs.Repeats.{met_from}
use Rattle.cc_arena_rules.proofs.repeats.meet_all.Given as goal

abbrev pub invariant-loop-placed : goal.invariant-loop-placed
invariant-loop-placed l = record {
  told : met_from l.symbols l.around l.start (drop l.placed-index l.nodes) l.n l.meetings ≡ met_from l.symbols l.around l.start l.nodes l.initial.n l.initial.meetings;
  counted : l.n ≡ l.start + l.placed-index;
}
