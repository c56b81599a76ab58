use Rattle.std.proofs.Common.{◌≡◌, drop}
use Rattle.cc_declare.specs.Forms.{has_struct}
use Rattle.cc_declare.proofs.checker.Checker.has_struct.Given as goal

abbrev pub invariant-loop-kind : goal.invariant-loop-kind
invariant-loop-kind l = has_struct l.self (drop l.kind-index l.kinds) ≡ has_struct l.self l.kinds
