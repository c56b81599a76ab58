-- What the rest puts, at what was put so far, is what all put.
use Rattle.std.proofs.Common.{◌≡◌, drop}
use Rattle.cc_tree.specs.Views.{values_of}
use Rattle.cc_arena_fill.specs.Filling as spec
use Rattle.cc_arena_fill.proofs.declaration.+fill.Given as goal

abbrev pub invariant-fill_values-loop-v : goal.invariant-fill_values-loop-v
invariant-fill_values-loop-v l = spec.put_values (values_of (drop l.v-index l.vs)) l.up l.arena ≡ spec.put_values (values_of l.vs) l.up l.initial.arena
