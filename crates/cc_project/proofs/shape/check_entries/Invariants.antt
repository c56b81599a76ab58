use Rattle.std.proofs.Common.{◌≡◌, ◌++◌, drop, codes}
use Rattle.cc_project.specs.Order.{at_each_new, first_failing}
use Rattle.cc_project.specs.Views.{texts_of}
use Rattle.cc_project.specs.Rules.{is_entry}
use Rattle.cc_project.proofs.shape.check_entries.Given as goal

abbrev pub invariant-loop-k : goal.invariant-loop-k
invariant-loop-k l = record {
  left : first_failing (at_each_new (codes "entries") 8 is_entry l.k l.entries (texts_of (drop l.k l.items)))
      ≡ first_failing (at_each_new (codes "entries") 8 is_entry 0 l.initial.entries (texts_of l.items));
  seen : l.entries ++ texts_of (drop l.k l.items) ≡ l.initial.entries ++ texts_of l.items;
}
