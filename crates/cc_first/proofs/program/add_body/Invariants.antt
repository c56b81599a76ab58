use Rattle.std.proofs.Common.{◌≡◌, ◌++◌, List, map, take}
use Rattle.std.specs.List.{AllZip}
use Rattle.cc_first.specs.Linking.{IsCallFrom, names_of}
use Rattle.cc_first.specs.Views.{name_view}
use Rattle.cc_first.specs.declared.program.Call.{Call}
use Rattle.cc_first.proofs.program.add_body.Given as goal

abbrev pub invariant-loop-name : goal.invariant-loop-name
invariant-loop-name l = record {
  own : List Call;
  added : l.calls.items ≡ l.initial.calls.items ++ own;
  zipped : AllZip (IsCallFrom (names_of l.names.keys) l.caller) (map name_view (take l.name-index l.called)) own;
}
