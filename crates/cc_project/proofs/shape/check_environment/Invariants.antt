use Rattle.std.proofs.Common.{◌≡◌, ◌++◌, drop, codes}
use Rattle.cc_project.specs.Order.{at_each_new, first_failing}
use Rattle.cc_project.specs.Views.{texts_of}
use Rattle.cc_project.specs.Rules.{is_environment}
use Rattle.cc_project.proofs.shape.check_environment.Given as goal

abbrev pub invariant-loop-k : goal.invariant-loop-k
invariant-loop-k l = record {
  left : first_failing (at_each_new (codes "environment") 9 (is_environment l.entries) l.k l.environment (texts_of (drop l.k l.items)))
      ≡ first_failing (at_each_new (codes "environment") 9 (is_environment l.entries) 0 l.initial.environment (texts_of l.items));
  seen : l.environment ++ texts_of (drop l.k l.items) ≡ l.initial.environment ++ texts_of l.items;
}
