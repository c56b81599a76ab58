use Rattle.std.proofs.Common.{◌≡◌, drop}
use Rattle.cc_declare.specs.Forms.{taking_all}
use Rattle.cc_declare.proofs.checker.Checker.takes_all.Given as goal

abbrev pub invariant-loop-kind : goal.invariant-loop-kind
invariant-loop-kind l = taking_all (drop l.kind-index l.kinds) l.f l.self ≡ taking_all l.kinds l.initial.f l.initial.self
