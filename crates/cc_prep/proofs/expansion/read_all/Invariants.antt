use Rattle.std.proofs.Common.{◌≡◌, ◌≤◌, ◌+◌, ◌*◌, ◌-◌, length}
use Rattle.std.specs.Prelude.{All}
use Rattle.cc_prep.specs.Faults.{NoneFalls, counts_of}
use Rattle.cc_prep.specs.Files.{IsOpen}
use Rattle.cc_prep.proofs.expansion.read_all.Given as goal

abbrev pub invariant-loop-file : goal.invariant-loop-file
invariant-loop-file g l = record {
  open_files : All (IsOpen (g.S.Shelf.files l.initial.shelf) l.source.name.now l.source.bytes.now) l.files.items;
  few : l.includes ≤ 1000;
  keeps : g.S.Shelf.files l.shelf ≡ g.S.Shelf.files l.initial.shelf;
  none_falls : NoneFalls (counts_of (g.S.Shelf.faults l.initial.shelf) (g.S.Shelf.misses l.initial.shelf) (g.S.Shelf.longs l.initial.shelf))
      (counts_of (g.S.Shelf.faults l.shelf) (g.S.Shelf.misses l.shelf) (g.S.Shelf.longs l.shelf));
}

abbrev pub decreases-loop-file : goal.decreases-loop-file
decreases-loop-file g l = length l.files.items + 2 * (1000 - l.includes)
