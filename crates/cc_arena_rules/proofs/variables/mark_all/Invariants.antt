use Rattle.std.proofs.Common.{◌≡◌, ◌+◌, drop}
use Rattle.cc_arena_rules.specs.Variables.{taken_from}
use Rattle.cc_arena_rules.proofs.variables.mark_all.Given as goal

abbrev pub invariant-loop-placed : goal.invariant-loop-placed
invariant-loop-placed l = record {
  told : taken_from l.symbols l.around l.start (drop l.placed-index l.nodes) l.n l.flags ≡ taken_from l.symbols l.around l.start l.nodes l.initial.n l.initial.flags;
  counted : l.n ≡ l.start + l.placed-index;
}
