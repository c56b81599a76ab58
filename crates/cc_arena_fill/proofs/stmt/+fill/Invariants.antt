-- What the rest puts, at what was put so far, is what all put.
use Rattle.std.proofs.Common.{◌≡◌, drop}
use Rattle.cc_tree.specs.Views.{items_of}
use Rattle.cc_arena_fill.specs.Filling as spec
use Rattle.cc_arena_fill.proofs.stmt.+fill.Given as goal

abbrev pub invariant-fill_items-loop-i : goal.invariant-fill_items-loop-i
invariant-fill_items-loop-i l = spec.put_items (items_of (drop l.i-index l.is)) l.up l.arena ≡ spec.put_items (items_of l.is) l.up l.initial.arena
