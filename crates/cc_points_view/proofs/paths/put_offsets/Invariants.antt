use Rattle.std.proofs.Common.{◌≡◌, drop}
use Rattle.cc_points_view.specs.Paths.{with_offsets}
use Rattle.cc_points_view.proofs.paths.put_offsets.Given as goal

abbrev pub invariant-loop-part : goal.invariant-loop-part
invariant-loop-part l = record {
  put : with_offsets (drop l.part-index l.parts) l.offset l.lists ≡ with_offsets l.parts 0 l.initial.lists;
  counted : l.offset ≡ l.part-index;
}
