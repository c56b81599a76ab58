use Rattle.std.proofs.Common.{◌≡◌, ◌++◌, map, take}
use Rattle.cc_first.specs.Linking.{AreNumbered, bare, bare_view}
use Rattle.cc_first.specs.Unit.{functions_of}
use Rattle.cc_first.specs.Views.{parts_view}
use Rattle.cc_first.proofs.program.add_functions.Given as goal

abbrev pub invariant-loop-part : goal.invariant-loop-part
invariant-loop-part l = record {
  numbered : AreNumbered l.functions.items l.names.keys;
  more : map bare_view l.functions.items ≡ map bare_view l.initial.functions.items ++ map bare (functions_of l.file.0 (parts_view (take l.part-index l.parts)));
}
