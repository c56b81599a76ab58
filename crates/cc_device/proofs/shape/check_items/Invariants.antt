use Rattle.std.proofs.Common.{◌≡◌, ◌++◌, drop}
use Rattle.cc_project.specs.Order.{at_each_new, first_failing}
use Rattle.cc_project.specs.Views.{texts_of}
use Rattle.cc_device.specs.Keys.{member_text}
use Rattle.cc_device.specs.Rules.{is_free}
use Rattle.cc_device.proofs.shape.check_items.Given as goal

abbrev pub invariant-loop-k : goal.invariant-loop-k
invariant-loop-k l = record {
  left : first_failing (at_each_new (member_text l.device l.key) l.rule (is_free l.environment) l.k l.functions (texts_of (drop l.k l.items)))
      ≡ first_failing (at_each_new (member_text l.device l.key) l.rule (is_free l.environment) 0 l.initial.functions (texts_of l.items));
  seen : l.functions ++ texts_of (drop l.k l.items) ≡ l.initial.functions ++ texts_of l.items;
}
