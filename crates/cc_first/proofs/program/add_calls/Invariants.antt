use Rattle.std.proofs.Common.{◌≡◌, ◌++◌, ℕ, List, take}
use Rattle.cc_first.specs.Linking.{AreCalls, names_of}
use Rattle.cc_first.specs.Unit.{functions_of}
use Rattle.cc_first.specs.Views.{parts_view}
use Rattle.cc_first.specs.declared.program.Call.{Call}
use Rattle.cc_first.proofs.program.add_calls.Given as goal

abbrev pub invariant-loop-part : goal.invariant-loop-part
invariant-loop-part l = record {
  more : List Call;
  added : l.calls.items ≡ l.initial.calls.items ++ more;
  are : (file : ℕ) → AreCalls (names_of l.names.keys) (functions_of file (parts_view (take l.part-index l.parts))) more;
}
