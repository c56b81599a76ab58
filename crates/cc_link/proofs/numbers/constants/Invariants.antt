use Rattle.std.proofs.Common.{◌≡◌, drop}
use Rattle.cc_link.specs.Numbers.{constants_from, constants as all}
use Rattle.cc_link.proofs.numbers.constants.Given as goal

abbrev pub invariant-loop-declared : goal.invariant-loop-declared
invariant-loop-declared l = constants_from (drop l.declared-index l.declared-items) l.table ≡ all l.declared
