use Rattle.std.proofs.Common.{◌≡◌, ◌+◌, drop}
use Rattle.cc_arena_rules.specs.Inherited.{inherited_from}
use Rattle.cc_arena_rules.specs.Surroundings.{around_step}
use Rattle.cc_arena_rules.proofs.inherit.all_around.Given as goal

abbrev pub invariant-loop-placed : goal.invariant-loop-placed
invariant-loop-placed l = record {
  told : inherited_from (around_step l.arena l.symbols l.found) l.start (drop l.placed-index l.nodes) l.n l.all ≡ inherited_from (around_step l.arena l.symbols l.found) l.start l.nodes l.initial.n l.initial.all;
  counted : l.n ≡ l.start + l.placed-index;
}
