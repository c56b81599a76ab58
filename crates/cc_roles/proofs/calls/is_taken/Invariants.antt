use Rattle.std.proofs.Common.{◌≡◌, ◌-◌, length}
use Rattle.cc_roles.specs.Calls.{is_taken, used_within}
use Rattle.cc_roles.proofs.calls.is_taken.Given as goal

abbrev pub invariant-loop : goal.invariant-loop
invariant-loop l = used_within l.program (length l.program.arena.nodes - l.counter) l.at ≡ is_taken l.program l.site
