use Rattle.std.proofs.Common.{◌≡◌, drop, map}
use Rattle.cc_tree.specs.Views.{view_external}
use Rattle.cc_arena_fill.specs.Filling as spec
use Rattle.cc_arena_fill.proofs.file.fill_externals.Given as goal

abbrev pub invariant-loop-x : goal.invariant-loop-x
invariant-loop-x l = spec.put_file (map view_external (drop l.x-index l.xs)) l.arena ≡ spec.put_file (map view_external l.xs) l.initial.arena
