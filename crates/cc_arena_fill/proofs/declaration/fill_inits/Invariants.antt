use Rattle.std.proofs.Common.{◌≡◌, drop, map}
use Rattle.cc_tree.specs.Views.{view_init}
use Rattle.cc_arena_fill.specs.Filling as spec
use Rattle.cc_arena_fill.proofs.declaration.fill_inits.Given as goal

abbrev pub invariant-loop-i : goal.invariant-loop-i
invariant-loop-i l = spec.put_inits (map view_init (drop l.i-index l.is)) l.up l.arena ≡ spec.put_inits (map view_init l.is) l.up l.initial.arena
