use Rattle.std.proofs.Common.{◌≡◌, drop}
use Rattle.cc_first.specs.Views.{parts_view}
use Rattle.cc_first_list.specs.Points as spec
use Rattle.cc_first_list.proofs.points.with_parts.Given as goal

abbrev pub invariant-loop-part : goal.invariant-loop-part
invariant-loop-part l = spec.with_parts l.sum (parts_view (drop l.part-index l.parts)) ≡ spec.with_parts l.count (parts_view l.parts)
