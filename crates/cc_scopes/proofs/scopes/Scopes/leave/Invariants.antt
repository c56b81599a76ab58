use Rattle.std.proofs.Common.{◌≡◌, length}
use Rattle.cc_scopes.specs.Names.{names_outside}
use Rattle.cc_scopes.proofs.scopes.Scopes.leave.Given as goal

abbrev pub invariant-loop : goal.invariant-loop
invariant-loop l = names_outside l.self ≡ names_outside l.initial.self

abbrev pub decreases-loop : goal.decreases-loop
decreases-loop l = length l.self
