use Rattle.std.proofs.Common.{◌≡◌, drop}
use Rattle.cc_tree.specs.Views.{types_of}
use Rattle.cc_declare.specs.Parameters.{formals_declared}
use Rattle.cc_declare.proofs.checker.Checker.declare_formals.Given as goal

abbrev pub invariant-loop-p : goal.invariant-loop-p
invariant-loop-p l = formals_declared (types_of (drop l.p-index l.ps)) l.self ≡ formals_declared (types_of l.ps) l.initial.self
