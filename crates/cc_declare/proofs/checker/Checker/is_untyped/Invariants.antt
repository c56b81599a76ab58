use Rattle.std.proofs.Common.{◌≡◌, drop}
use Rattle.cc_declare.specs.Forms.{is_untyped}
use Rattle.cc_declare.proofs.checker.Checker.is_untyped.Given as goal

abbrev pub invariant-loop-kind : goal.invariant-loop-kind
invariant-loop-kind l = is_untyped (drop l.kind-index l.kinds) ≡ is_untyped l.kinds
