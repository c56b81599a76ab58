use Rattle.std.proofs.Common.{◌≡◌, ◌-◌, length}
use Rattle.cc_roles.specs.Names.{bare, bare_within}
use Rattle.cc_roles.proofs.names.bare.Given as goal

abbrev pub invariant-loop : goal.invariant-loop
invariant-loop l = bare_within l.program.arena (length l.program.arena.nodes - l.counter) l.at ≡ bare l.program.arena l.node
