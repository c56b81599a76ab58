use Rattle.std.proofs.Common.{◌≡◌, drop}
use Rattle.cc_tree.specs.Views.{types_of}
use Rattle.cc_declare.specs.Naming.{has_unnamed}
use Rattle.cc_declare.proofs.names.has_unnamed.Given as goal

abbrev pub invariant-loop-p : goal.invariant-loop-p
invariant-loop-p l = has_unnamed (types_of (drop l.p-index l.ps)) ≡ has_unnamed (types_of l.ps)
