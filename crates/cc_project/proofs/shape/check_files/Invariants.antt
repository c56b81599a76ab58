use Rattle.std.proofs.Common.{◌≡◌, ◌++◌, drop}
use Rattle.cc_project.specs.Order.{at_each_new, first_failing}
use Rattle.cc_project.specs.Views.{texts_of}
use Rattle.cc_project.specs.Keys.{field_text}
use Rattle.cc_project.specs.Rules.{is_new_file}
use Rattle.cc_project.proofs.shape.check_files.Given as goal

abbrev pub invariant-loop-k : goal.invariant-loop-k
invariant-loop-k l = record {
  left : first_failing (at_each_new (field_text l.field) 6 is_new_file l.k l.files (texts_of (drop l.k l.items)))
      ≡ first_failing (at_each_new (field_text l.field) 6 is_new_file 0 l.initial.files (texts_of l.items));
  seen : l.files ++ texts_of (drop l.k l.items) ≡ l.initial.files ++ texts_of l.items;
}
