use Rattle.std.proofs.Common.{◌≡◌, ◌<◌, ◌^◌}
use Rattle.cc_prep.specs.Faults.{NoneFalls, counts_of}
use Rattle.cc_front.proofs.files.check_files.Given as goal

abbrev pub invariant-loop-file : goal.invariant-loop-file
invariant-loop-file g l = record {
  fits : l.next < 2 ^ 30;
  keeps : g.S.Shelf.files l.shelf ≡ g.S.Shelf.files l.initial.shelf;
  none_falls : NoneFalls (counts_of (g.S.Shelf.faults l.initial.shelf) (g.S.Shelf.misses l.initial.shelf) (g.S.Shelf.longs l.initial.shelf))
      (counts_of (g.S.Shelf.faults l.shelf) (g.S.Shelf.misses l.shelf) (g.S.Shelf.longs l.shelf));
}
