use Rattle.std.proofs.Common.{◌≡◌, drop}
use Rattle.cc_tree.specs.Views.{exprs_of}
use Rattle.cc_typing.specs.Typing.{passed, all_noted}
use Rattle.cc_typing.proofs.walk.+walk.Given as goal

abbrev pub invariant-arguments-loop-e : goal.invariant-arguments-loop-e
invariant-arguments-loop-e l = record {
  value : passed l.symbols l.state (exprs_of (drop l.e-index l.es)) ≡ passed l.symbols l.initial.state (exprs_of l.es);
  found : all_noted l.symbols l.state (exprs_of (drop l.e-index l.es)) l.found ≡ all_noted l.symbols l.initial.state (exprs_of l.es) l.initial.found;
}
