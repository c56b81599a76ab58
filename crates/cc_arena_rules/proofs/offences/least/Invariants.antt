use Rattle.std.proofs.Common.{◌≡◌, ◌+◌, drop}
use Rattle.cc_arena_rules.specs.Broken.{judged}
use Rattle.cc_arena_rules.specs.Least.{least_from}
use Rattle.cc_arena_rules.proofs.offences.least.Given as goal

abbrev pub invariant-loop-placed : goal.invariant-loop-placed
invariant-loop-placed l = record {
  told : least_from (judged l.judging) l.around (drop l.placed-index l.nodes) l.n l.least ≡ least_from (judged l.judging) l.around l.nodes l.initial.n l.initial.least;
  counted : l.n ≡ l.judging.start + l.placed-index;
}
